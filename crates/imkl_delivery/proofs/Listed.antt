-- A list of entries as a loop over tokens reads it.
use Rattle.std.proofs.Common.{◌≡◌, ◌∙◌, ℕ, zero, suc, ◌+◌, ◌<◌, ◌≤◌, List, [], ◌∷◌, ◌++◌, length, get_or, drop, Some, None, Result, Ok, refl, sym, ap, subst, arith, add-one, length-append}
use borrow.Author.Count.{below_more}
use Rattle.json.specs.Token.{Token}
use Rattle.serde_json.specs.Data.{Data, Items, no_items, item, null}
use Rattle.ocl_base.specs.Steps.{each}
use Rattle.ocl_base.proofs.ForAbove.{ok_is, each_at, each_length}
use Rattle.imkl_json.specs.Json.{elements_of}
use Rattle.token_tree.specs.Tokens.{items_at}
use Rattle.imkl_population.specs.Population.{Population}
use Rattle.imkl_delivery.specs.declared.fault.DeliveryFault.{DeliveryFault}
use Rattle.imkl_delivery.specs.Document.{Written, entry_from}
use Rattle.imkl_delivery.specs.Steps.{steps}
use Rattle.imkl_delivery.specs.Loading.{entry_at, nothing_written, add_entry, put_members}
use Rattle.imkl_delivery.specs.Straight.{IsHead, AreAdded, IsEntryPut}
use Rattle.imkl_delivery.specs.Loading.{put_entries}
use Rattle.imkl_delivery.proofs.Runs.{begins, goes_on_by}
use Rattle.imkl_delivery.proofs.Taken.{next_left, none_left}
use Rattle.imkl_delivery.proofs.FromTokens.{same_read}
use Rattle.json.specs.Json.{after_end_array, parse_map}
use Rattle.token_tree.proofs.Reading.{items_over, items_next, item_there}

-- each of a list, element by element
pub each_all : {X A : Type 0} (f : X → Result A DeliveryFault) (d : X) (xs : List X) → ((k : ℕ) → k < length xs → (a : A) × (f (get_or xs k d) ≡ Ok a)) → (ys : List A) × (each f xs ≡ Ok ys)
unfolding each
each_all f d [] h = ([], refl)
each_all {X} {A} f d (x ∷ xs) h =
    let one = h 0 (omega arith) in
    let more = each_all f d xs (λ k lt. h (suc k) (omega (arith, lt))) in
    let first : f x ≡ Ok one.0 = one.1 in
    (one.0 ∷ more.0, rw (first, more.1) refl)

-- ---- the first pass

-- the values before a place are entries, whose objects were added; the others are still to come
pub record AreAddedSoFar (all : Items) (r : List Token) (place : ℕ) (p : Population) (ts : List Token) (q : Population) : Type 0 where
  pub rest : Items
  pub more : items_at 125 ts ≡ Some (rest, r)
  pub left : drop place (elements_of all) ≡ elements_of rest
  pub within : place ≤ length (elements_of all)
  pub are : (k : ℕ) → k < place → (w : Written) × (entry_from (get_or (elements_of all) k null) ≡ Ok w)
  pub made : (ws : List Written) → each entry_from (elements_of all) ≡ Ok ws → steps (λ o. add_entry o (entry_at ws o)) place p ≡ Ok q

pub none_added : (all : Items) (r : List Token) (ts : List Token) (p : Population) → items_at 125 ts ≡ Some (all, r) → AreAddedSoFar all r 0 p ts p
none_added all r ts p h = record {
  rest = all;
  more = h;
  left = refl;
  within = omega arith;
  are = λ k lt. absurd (omega (arith, lt));
  made = λ ws read. begins (λ o. add_entry o (entry_at ws o)) p;
}

-- the default plays no part where there is an element
any_default : {X : Type 0} (xs : List X) (k : ℕ) (d e : X) → k < length xs → get_or xs k d ≡ get_or xs k e
any_default [] k d e lt = absurd (omega (arith, lt))
any_default (x ∷ xs) zero d e lt = refl
any_default (x ∷ xs) (suc k) d e lt = any_default xs k d e (omega (arith, lt))

-- one entry more, and its object
pub one_added : (all : Items) (r : List Token) (place : ℕ) (p : Population) (ts new : List Token) (q u : Population) (id class : List ℕ) → AreAddedSoFar all r place p ts q → after_end_array ts ≡ None → IsHead id class ts new
    → ((o : ℕ) (w : Written) → w.id ≡ id → w.class ≡ class → add_entry o w q ≡ Ok u) → AreAddedSoFar all r (place + 1) p new u
one_added all r place p ts new q u id class h going head adds =
    let it = item_there 125 ts h.rest r going h.more in
    let read = head it.first it.left it.is in
    let next = next_left (elements_of all) place it.first (elements_of it.rest) (h.left ∙ ap elements_of it.all_is) in
    let here : it.first ≡ get_or (elements_of all) place null = next.here ∙ any_default (elements_of all) place it.first null next.within in
    record {
      rest = it.rest;
      more = subst (λ (x : List Token). items_at 125 x ≡ Some (it.rest, r)) read.0 it.more;
      left = rw add-one next.later;
      within = omega (arith, next.within);
      are = below_more (λ k. (w : Written) × (entry_from (get_or (elements_of all) k null) ≡ Ok w)) place h.are (record { id = id; class = class; features = read.1.0 }, ap entry_from (sym here) ∙ read.1.1);
      made = λ ws each_read.
          let at = each_at entry_from (elements_of all) ws place it.first nothing_written each_read next.within in
          let w : record { id = id; class = class; features = read.1.0 } ≡ entry_at ws place = ok_is _ _ (sym read.1.1 ∙ ap entry_from next.here ∙ at) in
          let now = adds place (entry_at ws place) (sym (ap (λ (x : Written). x.id) w)) (sym (ap (λ (x : Written). x.class) w)) in
          goes_on_by {X = Unit {0}} (λ o. add_entry o (entry_at ws o)) (Ok tt) place p q u refl (h.made ws each_read) now;
    }

-- at the end of the list all are added
pub all_added : (all : Items) (r : List Token) (place : ℕ) (p : Population) (ts new : List Token) (q : Population) → AreAddedSoFar all r place p ts q → after_end_array ts ≡ Some new → (r ≡ new) × AreAdded all p q
all_added all r place p ts new q h over =
    let same = same_read {A = Items} no_items h.rest new r (items_at 125 ts) (items_over 125 ts new over) h.more in
    let none : no_items ≡ h.rest = same.0 in
    let left : r ≡ new = sym same.1 in
    let ended : length (drop place (elements_of all)) ≡ 0 = ap length (h.left ∙ ap elements_of (sym none)) in
    let end = none_left (elements_of all) place ended in
    let entries = each_all entry_from null (elements_of all) (λ k lt. h.are k (omega (arith, lt, end))) in
    let count : place ≡ length entries.0 = omega (arith, each_length entry_from (elements_of all) entries.0 entries.1, end, h.within) in
    (left, (entries.0, entries.1, subst (λ (n : ℕ). steps (λ o. add_entry o (entry_at entries.0 o)) n p ≡ Ok q) count (h.made entries.0 entries.1)))

-- ---- the second pass

-- the values that were read, and what they say written on their objects if all are entries; the others are still to come
pub record ArePutSoFar (old : List Token) (place : ℕ) (p : Population) (ts : List Token) (q : Population) : Type 0 where
  pub done : List Data
  pub count : length done ≡ place
  pub so_far : (rest : Items) (r : List Token) → items_at 125 ts ≡ Some (rest, r) → (all : Items) × (items_at 125 old ≡ Some (all, r)) × (elements_of all ≡ done ++ elements_of rest)
  pub made : (more : List Data) (ws : List Written) → each entry_from (done ++ more) ≡ Ok ws → steps (λ o. put_members o (entry_at ws o).features) place p ≡ Ok q

pub none_put : (ts : List Token) (p : Population) → ArePutSoFar ts 0 p ts p
none_put ts p = record {
  done = [];
  count = refl;
  so_far = λ rest r h. (rest, h, refl);
  made = λ more ws h. begins (λ o. put_members o (entry_at ws o).features) p;
}

middle : {X : Type 0} (xs : List X) (x : X) (ys : List X) (d : X) → get_or (xs ++ x ∷ ys) (length xs) d ≡ x
middle [] x ys d = refl
middle (y ∷ xs) x ys d = middle xs x ys d

one_between : {X : Type 0} (xs : List X) (x : X) (ys : List X) → (xs ++ x ∷ []) ++ ys ≡ xs ++ x ∷ ys
one_between [] x ys = refl
one_between {X} (y ∷ xs) x ys = ap (λ (l : List X). y ∷ l) (one_between xs x ys)

pub one_put : (old : List Token) (place : ℕ) (p : Population) (ts new : List Token) (q u : Population) → ArePutSoFar old place p ts q → after_end_array ts ≡ None → IsEntryPut place ts q new u → ArePutSoFar old (place + 1) p new u
one_put old place p ts new q u h going put =
    let d = put.0 in
    record {
      done = h.done ++ d ∷ [];
      count = length-append h.done (d ∷ []) ∙ ap (λ n. n + 1) h.count;
      so_far = λ rest r left.
          let before = h.so_far (item d rest) r (items_next 125 ts new d going put.1 ∙ ap (parse_map (item d)) left) in
          (before.0, before.1, before.2 ∙ sym (one_between h.done d (elements_of rest)));
      made = λ more ws read.
          let whole : each entry_from (h.done ++ d ∷ more) ≡ Ok ws = subst (λ (l : List Data). each entry_from l ≡ Ok ws) (one_between h.done d more) read in
          let inside : place < length (h.done ++ d ∷ more) = omega (arith, length-append h.done (d ∷ more), h.count) in
          let at = each_at entry_from (h.done ++ d ∷ more) ws place d nothing_written whole inside in
          let here : get_or (h.done ++ d ∷ more) place d ≡ d = ap (λ k. get_or (h.done ++ d ∷ more) k d) (sym h.count) ∙ middle h.done d more d in
          let now = put.2 (entry_at ws place) (ap entry_from (sym here) ∙ at) in
          goes_on_by {X = Unit {0}} (λ o. put_members o (entry_at ws o).features) (Ok tt) place p q u refl (h.made (d ∷ more) ws whole) now;
    }

pub all_put : (old : List Token) (place : ℕ) (p : Population) (ts new : List Token) (q : Population) → ArePutSoFar old place p ts q → after_end_array ts ≡ Some new
    → (all : Items) × (items_at 125 old ≡ Some (all, new)) × ((ws : List Written) → each entry_from (elements_of all) ≡ Ok ws → put_entries ws p ≡ Ok q)
all_put old place p ts new q h over =
    let last = h.so_far no_items new (items_over 125 ts new over) in (
      last.0,
      last.1,
      λ ws read.
          let whole : each entry_from (h.done ++ []) ≡ Ok ws = subst (λ (x : List Data). each entry_from x ≡ Ok ws) last.2 read in
          let count : place ≡ length ws = omega (arith, each_length entry_from (h.done ++ []) ws whole, length-append h.done [], h.count) in
          subst (λ (n : ℕ). steps (λ o. put_members o (entry_at ws o).features) n p ≡ Ok q) count (h.made [] ws whole),
    )
