-- Names and their ranks.
use Rattle.std.proofs.Common.{◌≡◌, ◌∙◌, ◌<◌, ℕ, zero, suc, Bool, false, not, eqb, List, [], ◌∷◌, ◌++◌, length, map, get_or, position, Some, None, bytes_eq, sym, refl, ap, arith, inl, inr, lt-ltb, le-ltb, ◌+◌, one-add, take, String, Global, string_bytes, IsPermutation}
use Rattle.std.specs.List.{prefix_len, position_or_len, list_any, AllByRecursion}
use Rattle.std.proofs.lemmas.Bool.{false≢true, cases_Bool, not-true}
use Rattle.std.proofs.lemmas.Bool.Decides.{eqb_tells, leb_tells}
use Rattle.std.proofs.lemmas.Slice.Eq.{bytes_eq-Decides}
use Rattle.std.proofs.lemmas.Cmp.{nat_list_eq_equiv}
use Rattle.std.proofs.lemmas.List.{length-map, map_push, map_more, get_or-map}
use Rattle.std.proofs.lemmas.List.Sorted.{Contains-permutation}
use Rattle.std.proofs.lemmas.List.Sums.{prefix_len_passes}
use Rattle.std.proofs.lemmas.List.Quantifiers.{position-Some}
use Rattle.indexmap.specs.IndexSet.{insert_key}
use Rattle.ocl_base.specs.Lists.{is_among, repeats}
use Rattle.ocl_base.proofs.ForAbove.{all_weaker, apart_push}
use Rattle.imkl_model.specs.Ranks.{named, rank_in, AreRanks}

-- ---- tests that agree on each element

prefix_alike : {X Y : Type 0} (p : Y → Bool) (q : X → Bool) (f : X → Y) (xs : List X) → AllByRecursion (λ x. p (f x) ≡ q x) xs → prefix_len (λ y. not (p y)) (map f xs) ≡ prefix_len (λ x. not (q x)) xs
prefix_alike p q f [] same = refl
prefix_alike p q f (x ∷ xs) same = rw (same.0, prefix_alike p q f xs same.1) refl

position_alike : {X Y : Type 0} (p : Y → Bool) (q : X → Bool) (f : X → Y) (xs : List X) → AllByRecursion (λ x. p (f x) ≡ q x) xs → position p (map f xs) ≡ position q xs
position_alike p q f xs same = rw (prefix_alike p q f xs same, length-map xs f) refl

any_alike : {X Y : Type 0} (p : Y → Bool) (q : X → Bool) (f : X → Y) (xs : List X) → AllByRecursion (λ x. p (f x) ≡ q x) xs → list_any p (map f xs) ≡ list_any q xs
any_alike p q f [] same = refl
any_alike p q f (x ∷ xs) same = rw (same.0, any_alike p q f xs same.1) refl

each_push : {X : Type 0} (P : X → Type 0) (xs : List X) (y : X) → AllByRecursion P xs → P y → AllByRecursion P (xs ++ y ∷ [])
each_push P [] y h last = (last, tt)
each_push P (x ∷ xs) y h last = (h.0, each_push P xs y h.1 last)

each_at : (P : ℕ → Type 0) (xs : List ℕ) (i : ℕ) → AllByRecursion P xs → i < length xs → P (get_or xs i 0)
each_at P [] i h lt = absurd (omega (arith, lt))
each_at P (x ∷ xs) zero h lt = h.0
each_at P (x ∷ xs) (suc i) h lt = each_at P xs i h.1 (omega (arith, lt))

nowhere : (ks : List ℕ) → prefix_len (λ _. not false) ks ≡ length ks
nowhere [] = refl
nowhere (k ∷ ks) = rw (nowhere ks) (one-add (length ks))

-- ---- a name and its rank

one_number : (a b : ℕ) → Some a ≡ Some b → a ≡ b
one_number a b s = cc

no_number : (a : ℕ) → None ≡ Some a → ⊥
no_number a s = cc

module _ (sorted : List (List ℕ)) where
  -- the name stands at its rank
  pub stands : (name : List ℕ) (rank : ℕ) → rank_in sorted name ≡ Some rank → named sorted rank ≡ name
  stands name rank e = sym ((bytes_eq-Decides name (named sorted rank)).0 (position-Some (bytes_eq name) sorted rank [] e).1)

  within : (name : List ℕ) (rank : ℕ) → rank_in sorted name ≡ Some rank → rank < length sorted
  within name rank e = (position-Some (bytes_eq name) sorted rank [] e).0

  same_rank : (name : List ℕ) (r k : ℕ) → rank_in sorted name ≡ Some r → rank_in sorted (named sorted k) ≡ Some k → bytes_eq name (named sorted k) ≡ eqb r k
  same_rank name r k at_r at_k =
      elim (eqb_tells r k) [
        | inl h ↦ (bytes_eq-Decides name (named sorted k)).1 (sym (stands name r at_r) ∙ ap (named sorted) h.1) ∙ sym h.0
        | inr h ↦ elim (cases_Bool (bytes_eq name (named sorted k))) [
          | inl same ↦ absurd (h.1 (one_number r k (sym at_r ∙ ap (rank_in sorted) ((bytes_eq-Decides name (named sorted k)).0 same) ∙ at_k)))
          | inr apart ↦ apart ∙ sym h.0
        ]
      ]

  no_rank : (name : List ℕ) (k : ℕ) → rank_in sorted name ≡ None → rank_in sorted (named sorted k) ≡ Some k → bytes_eq name (named sorted k) ≡ false
  no_rank name k none at_k =
      elim (cases_Bool (bytes_eq name (named sorted k))) [
        | inl same ↦ absurd (no_number k (sym none ∙ ap (rank_in sorted) ((bytes_eq-Decides name (named sorted k)).0 same) ∙ at_k))
        | inr apart ↦ apart
      ]

  among_ranks : (name : List ℕ) (r : ℕ) (ranks : List ℕ) → rank_in sorted name ≡ Some r → AreRanks sorted ranks → is_among bytes_eq (map (named sorted) ranks) name ≡ list_any (eqb r) ranks
  among_ranks name r ranks at_r h = any_alike (bytes_eq name) (eqb r) (named sorted) ranks (all_weaker _ _ (λ k at_k. same_rank name r k at_r at_k) ranks h)

  -- a name's number is that of its rank
  pub number_of_rank : (name : List ℕ) (r : ℕ) (ranks : List ℕ) → rank_in sorted name ≡ Some r → AreRanks sorted ranks → position (bytes_eq name) (map (named sorted) ranks) ≡ position (eqb r) ranks
  number_of_rank name r ranks at_r h = position_alike (bytes_eq name) (eqb r) (named sorted) ranks (all_weaker _ _ (λ k at_k. same_rank name r k at_r at_k) ranks h)

  pub number_of_none : (name : List ℕ) (ranks : List ℕ) → rank_in sorted name ≡ None → AreRanks sorted ranks → position (bytes_eq name) (map (named sorted) ranks) ≡ None
  number_of_none name ranks none h =
      position_alike (bytes_eq name) (λ _. false) (named sorted) ranks (all_weaker _ _ (λ k at_k. no_rank name k none at_k) ranks h)
      ∙ rw (nowhere ranks, le-ltb (length ranks) (length ranks) (omega arith)) refl

  -- ---- names that are taken in one by one

  -- the ranks of these names, which differ
  pub record AreTaken (ns : List (List ℕ)) (ks : List ℕ) : Type 0 where
    pub names : map (named sorted) ks ≡ ns
    pub ranks : AreRanks sorted ks
    pub apart : repeats bytes_eq ns ≡ false

  -- the rank of a name is there just if the name is
  pub is_taken : (names : List (List ℕ)) (ranks : List ℕ) (name : List ℕ) (r : ℕ) → AreTaken names ranks → rank_in sorted name ≡ Some r → list_any (eqb r) ranks ≡ is_among bytes_eq names name
  is_taken names ranks name r h at_r = sym (among_ranks name r ranks at_r h.ranks) ∙ ap (λ (xs : List (List ℕ)). is_among bytes_eq xs name) h.names

  pub one_more : (names : List (List ℕ)) (ranks new : List ℕ) (name : List ℕ) (r : ℕ) → AreTaken names ranks → rank_in sorted name ≡ Some r → list_any (eqb r) ranks ≡ false → new ≡ insert_key eqb ranks r → AreTaken (names ++ name ∷ []) new
  one_more names ranks new name r h at_r fresh is =
      let at_end : new ≡ ranks ++ r ∷ [] = is ∙ rw fresh refl in
      let there : named sorted r ≡ name = stands name r at_r in
      rw at_end (record {
        names = map_push (named sorted) ranks r ∙ rw (h.names, there) refl;
        ranks = each_push (λ rank. rank_in sorted (named sorted rank) ≡ Some rank) ranks r h.ranks (ap (rank_in sorted) there ∙ at_r);
        apart = apart_push bytes_eq nat_list_eq_equiv.symm names name h.apart (sym (is_taken names ranks name r h at_r) ∙ fresh);
      })

-- ---- names and the same in order

none_passes : {X : Type 0} (p : X → Bool) (xs : List X) → position p xs ≡ None → (k : ℕ) (d : X) → k < length xs → p (get_or xs k d) ≡ false
none_passes p xs none k d lt =
    elim (leb_tells (length xs) (position_or_len p xs)) [
      | inl le ↦ not-true (p (get_or xs k d)) (prefix_len_passes (λ x. not (p x)) xs k d (omega (arith, lt, le.1)))
      | inr less ↦ absurd (no_number (position_or_len p xs) (sym (rw (lt-ltb (position_or_len p xs) (length xs) less.1) at none)))
    ]

-- each has a rank
pub has_rank : (texts sorted : List (String Global)) (i : ℕ) (text : String Global) → IsPermutation (map string_bytes texts) (map string_bytes sorted) → i < length texts → text ≡ get_or texts i text → rank_in (map string_bytes sorted) (string_bytes text) ≡ None → ⊥
has_rank texts sorted i text moved lt is none =
    let name = string_bytes text in
    let at_i : get_or (map string_bytes texts) i name ≡ name = get_or-map string_bytes texts i text name lt ∙ ap string_bytes (sym is) in
    let within : i < length (map string_bytes texts) = omega (arith, lt, length-map texts string_bytes) in
    let there = Contains-permutation (map string_bytes texts) (map string_bytes sorted) name moved (i, within, at_i) in
    false≢true (sym (none_passes (bytes_eq name) (map string_bytes sorted) none there.0 name there.1) ∙ (bytes_eq-Decides name (get_or (map string_bytes sorted) there.0 name)).1 (sym there.2))

-- the names so far, and the next
pub names_more : (texts : List (String Global)) (i : ℕ) (text : String Global) → i < length texts → text ≡ get_or texts i text → map string_bytes (take (i + 1) texts) ≡ map string_bytes (take i texts) ++ string_bytes text ∷ []
names_more texts i text lt is = map_more string_bytes texts i text lt ∙ ap (λ (x : String Global). map string_bytes (take i texts) ++ string_bytes x ∷ []) (sym is)
