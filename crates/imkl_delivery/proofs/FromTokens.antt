-- From a delivery's tokens to its document.
use Rattle.std.proofs.Common.{◌≡◌, ◌∙◌, ℕ, suc, ◌+◌, Bool, true, false, List, [], ◌∷◌, length, Option, Some, None, option_map, Result, Ok, Err, is_some, Bor, Ordering, Less, Equal, Greater, codes, refl, sym, ap, subst, arith}
use Rattle.std.specs.Ordering.{nat_cmp, match_ordering}
use Rattle.std.specs.Cmp.Lexicographic.{slice_cmp}
use Rattle.std.specs.Prelude.{bytes_eq}
use Rattle.std.proofs.lemmas.Slice.Eq.{bytes_eq-Decides}
use Rattle.json.specs.Token.{Token, begin_object, end_object, begin_array, key}
use Rattle.json.specs.Token as token
use Rattle.json.specs.Json.{parse_map}
use Rattle.serde_json.specs.Data.{Data, string, array, object, Items, Members, no_members, member, put}
use Rattle.serde_json.specs.Events.{members_len}
use Rattle.serde_json.specs.Find.{get_member}
use Rattle.serde_json.proofs.Views.{get_member-put, get_member-put_other}
use Rattle.ocl_base.specs.Steps.{each}
use Rattle.imkl_json.specs.Json.{elements_of, record_from, list_from}
use Rattle.token_tree.specs.Tokens.{data_at, items_at, members_at}
use Rattle.token_tree.proofs.Reading.{map_there, data-string, data-array, data-object, members_over, members_next, member_there}
use Rattle.imkl_model.specs.ClassModel.{Model}
use Rattle.imkl_population.specs.Population.{Population}
use Rattle.imkl_delivery.specs.declared.fault.DeliveryFault.{DeliveryFault}
use Rattle.imkl_delivery.specs.declared.outline.Found.{Found}
use Rattle.imkl_delivery.specs.Document.{Written, entry_from, document_from}
use Rattle.std.specs.Result.{is_err}
use Rattle.std.proofs.lemmas.Bool.{false≢true}
use Rattle.imkl_population.specs.Finishing.{finish_outcome}
use Rattle.imkl_delivery.specs.Steps.{Leaves}
use Rattle.imkl_delivery.specs.Loading.{empty, add_entries, put_entries}
use Rattle.imkl_delivery.specs.Taken.{document_objects, object_features, added_from, finished_with}
use Rattle.imkl_delivery.specs.Straight.{opening, one_if, IsObject, HasFeatures, AreFound, HasHead}

-- ---- what was read twice, and calls that succeeded

abbrev pick : {A : Type 0} → A → Option A → A
pick d None = d
pick d (Some a) = a

-- what is there is one
pub same_there : {A : Type 0} (a b : A) (o : Option A) → o ≡ Some a → o ≡ Some b → a ≡ b
same_there a b o h k = ap (pick a) (sym h ∙ k)

pub same_read : {A : Type 0} (a b : A) (s r : List Token) (o : Option (A × List Token)) → o ≡ Some (a, s) → o ≡ Some (b, r) → (a ≡ b) × (s ≡ r)
same_read {A} a b s r o h k = let both = same_there (a, s) (b, r) o h k in (ap (λ (p : A × List Token). p.0) both, ap (λ (p : A × List Token). p.1) both)

pub leaves_ok : {X S : Type 0} (r : Result X DeliveryFault) (given : Result S DeliveryFault) (new : S) → is_err r ≡ false → Leaves r given new → given ≡ Ok new
leaves_ok (Ok x) given new h left = left
leaves_ok (Err e) given new h left = absurd (false≢true (sym h))

pub differ : (a b : List ℕ) → bytes_eq a b ≡ false → b ≡ a → ⊥
differ a b h e = false≢true (sym h ∙ (bytes_eq-Decides a b).1 (sym e))

none_there : {A B : Type 0} (f : A → B) (o : Option A) → is_some o ≡ false → option_map f o ≡ None
none_there f None h = refl
none_there f (Some a) h = absurd (false≢true (sym h))

-- ---- members that are put one after another

len_put_at : (o : Ordering) (k l : List ℕ) (d e : Data) (ms : Members) → match_ordering o (get_member k ms) (Some e) (get_member k ms) ≡ None → (get_member k ms ≡ None → members_len (put k d ms) ≡ suc (members_len ms))
    → members_len (match_ordering o (member k d (member l e ms)) (member l d ms) (member l e (put k d ms))) ≡ suc (suc (members_len ms))
len_put_at Less k l d e ms h more = refl
len_put_at Equal k l d e ms h more = absurd (cc)
len_put_at Greater k l d e ms h more = ap suc (more h)

-- a new name is one member more
pub members_len-put : (k : List ℕ) (d : Data) (ms : Members) → get_member k ms ≡ None → members_len (put k d ms) ≡ suc (members_len ms)
members_len-put k d no_members h = refl
members_len-put k d (member l e ms) h = len_put_at (slice_cmp nat_cmp k l) k l d e ms h (members_len-put k d ms)

-- names of different lengths differ
pub apart : (a b : List ℕ) → (length a ≡ length b → ⊥) → a ≡ b → ⊥
apart a b h e = h (ap length e)

features_stay : (b : Bool) (k : List ℕ) (d : Data) (ms : Members) → (codes "features" ≡ k → ⊥) → HasFeatures b ms → HasFeatures b (put k d ms)
features_stay true k d ms other h = (h.0, get_member-put_other (codes "features") k d ms other ∙ h.1)
features_stay false k d ms other h = get_member-put_other (codes "features") k d ms other ∙ h

-- ---- an entry

pub id_found : (f : Found) (i : Bor (List ℕ)) (ms : Members) → is_some f.id ≡ false → AreFound f ms → AreFound (record { id = Some i; class = f.class; features = f.features }) (put (codes "id") (string i.now) ms)
id_found f i ms none h =
    let d = string i.now in
    let new : get_member (codes "id") ms ≡ None = h.id ∙ none_there (λ s. string s.now) f.id none in
    let zero : one_if (is_some f.id) ≡ 0 = ap one_if none in
    let more = members_len-put (codes "id") d ms new in
    let sum : members_len (put (codes "id") d ms) ≡ 1 + one_if (is_some f.class) + one_if f.features = omega (arith, more, h.count, zero) in
    record {
      id = get_member-put (codes "id") d ms;
      class = get_member-put_other (codes "class") (codes "id") d ms (apart (codes "class") (codes "id") (λ e. let bad : 5 ≡ 2 = e in omega arith)) ∙ h.class;
      features = features_stay f.features (codes "id") d ms (apart (codes "features") (codes "id") (λ e. let bad : 8 ≡ 2 = e in omega arith)) h.features;
      count = sum;
    }

pub class_found : (f : Found) (i : Bor (List ℕ)) (ms : Members) → is_some f.class ≡ false → AreFound f ms → AreFound (record { id = f.id; class = Some i; features = f.features }) (put (codes "class") (string i.now) ms)
class_found f i ms none h =
    let d = string i.now in
    let new : get_member (codes "class") ms ≡ None = h.class ∙ none_there (λ s. string s.now) f.class none in
    let zero : one_if (is_some f.class) ≡ 0 = ap one_if none in
    let more = members_len-put (codes "class") d ms new in
    let sum : members_len (put (codes "class") d ms) ≡ one_if (is_some f.id) + 1 + one_if f.features = omega (arith, more, h.count, zero) in
    record {
      id = get_member-put_other (codes "id") (codes "class") d ms (apart (codes "id") (codes "class") (λ e. let bad : 2 ≡ 5 = e in omega arith)) ∙ h.id;
      class = get_member-put (codes "class") d ms;
      features = features_stay f.features (codes "class") d ms (apart (codes "features") (codes "class") (λ e. let bad : 8 ≡ 5 = e in omega arith)) h.features;
      count = sum;
    }

pub features_found : (f : Found) (d : Data) (ms : Members) → f.features ≡ false → IsObject d → AreFound f ms → AreFound (record { id = f.id; class = f.class; features = true }) (put (codes "features") d ms)
features_found f d ms none is h =
    let new : get_member (codes "features") ms ≡ None = subst (λ (b : Bool). HasFeatures b ms) none h.features in
    let zero : one_if f.features ≡ 0 = ap one_if none in
    let more = members_len-put (codes "features") d ms new in
    let sum : members_len (put (codes "features") d ms) ≡ one_if (is_some f.id) + one_if (is_some f.class) + 1 = omega (arith, more, h.count, zero) in
    record {
      id = get_member-put_other (codes "id") (codes "features") d ms (apart (codes "id") (codes "features") (λ e. let bad : 2 ≡ 8 = e in omega arith)) ∙ h.id;
      class = get_member-put_other (codes "class") (codes "features") d ms (apart (codes "class") (codes "features") (λ e. let bad : 5 ≡ 8 = e in omega arith)) ∙ h.class;
      features = (is.0, get_member-put (codes "features") d ms ∙ ap (λ (x : Data). Some x) is.1);
      count = sum;
    }

pub features_are : (all fs : Members) → get_member (codes "features") all ≡ Some (object fs) → object_features (object all) ≡ Some fs
unfolding object_features
features_are all fs h = rw h refl

-- the entry with such members
pub entry_is : (i c : List ℕ) (ms : Members) (h : HasHead i c ms) → entry_from (object ms) ≡ Ok (record { id = i; class = c; features = h.features.0 })
unfolding entry_from record_from
entry_is i c ms h = rw (h.count, h.id, h.class, h.features.1) refl

-- ---- the document

abbrev pub document_data : List ℕ → Items → Data
document_data name all = object (put (codes "objects") (array all) (put (codes "model") (string name) no_members))

pub record OutlineThere (name : List ℕ) (ts : List Token) (d : Data) : Type 0 where
  pub all : Items
  pub left : List Token
  pub is : items_at 125 ts ≡ Some (all, left)
  pub whole : left ≡ end_object ∷ [] → d ≡ document_data name all

-- a text that begins as a delivery does is its document, if it is read at all
pub outline_there : (name : List ℕ) (ts : List Token) (d : Data) → data_at 127 (opening name ts) ≡ Some (d, []) → OutlineThere name ts d
outline_there name ts d h =
    let t3 = begin_array ∷ ts in
    let t2 = key (codes "objects") ∷ t3 in
    let t1 = key (codes "model") ∷ token.string name ∷ t2 in
    let opened = sym (data-object 127 t1 (omega arith)) ∙ h in
    let first = map_there (λ (p : Members × List Token). (object p.0, p.1)) (members_at 126 no_members t1) (d, []) opened in
    let ms = first.0.0 in
    let d_is : object ms ≡ d = ap (λ (p : Data × List Token). p.0) first.2 in
    let end : first.0.1 ≡ [] = ap (λ (p : Data × List Token). p.1) first.2 in
    let one = member_there 126 no_members (codes "model") t1 (token.string name ∷ t2) ms first.0.1 refl first.1 in
    let model = same_read {A = Data} one.first (string name) one.left t2 (data_at 126 (token.string name ∷ t2)) one.is (data-string 126 name t2) in
    let model_is : one.first ≡ string name = model.0 in
    let model_left : one.left ≡ t2 = model.1 in
    let more : members_at 126 (put (codes "model") (string name) no_members) t2 ≡ Some (ms, first.0.1) =
    subst (λ (x : Data). members_at 126 (put (codes "model") x no_members) t2 ≡ Some (ms, first.0.1)) model_is (subst (λ (x : List Token). members_at 126 (put (codes "model") one.first no_members) x ≡ Some (ms, first.0.1)) model_left one.more) in
    let two = member_there 126 (put (codes "model") (string name) no_members) (codes "objects") t2 t3 ms first.0.1 refl more in
    let listed = sym (data-array 126 ts (omega arith)) ∙ two.is in
    let list = map_there (λ (p : Items × List Token). (array p.0, p.1)) (items_at 125 ts) (two.first, two.left) listed in
    let all_is : array list.0.0 ≡ two.first = ap (λ (p : Data × List Token). p.0) list.2 in
    record {
      all = list.0.0;
      left = list.0.1;
      is = list.1;
      whole = λ last.
          let left_is : two.left ≡ end_object ∷ [] = sym (ap (λ (p : Data × List Token). p.1) list.2) ∙ last in
          let put_all = put (codes "objects") two.first (put (codes "model") (string name) no_members) in
          let over = same_read {A = Members} put_all ms [] first.0.1 (members_at 126 put_all (end_object ∷ [])) (members_over 126 put_all (end_object ∷ []) [] refl) (subst (λ (x : List Token). members_at 126 put_all x ≡ Some (ms, first.0.1)) left_is two.more) in
          let ms_is : put_all ≡ ms = over.0 in
          sym d_is ∙ ap object (sym ms_is) ∙ ap (λ (x : Data). object (put (codes "objects") x (put (codes "model") (string name) no_members))) (sym all_is);
    }

-- a list of objects that is read makes the document
pub document_reads : (name : List ℕ) (ts : List Token) (all : Items) → items_at 125 ts ≡ Some (all, end_object ∷ []) → data_at 127 (opening name ts) ≡ Some (document_data name all, [])
document_reads name ts all h =
    let t3 = begin_array ∷ ts in
    let t2 = key (codes "objects") ∷ t3 in
    let t1 = key (codes "model") ∷ token.string name ∷ t2 in
    let list : data_at 126 t3 ≡ Some (array all, end_object ∷ []) = data-array 126 ts (omega arith) ∙ ap (parse_map array) h in
    let one = members_next 126 no_members (codes "model") t1 (token.string name ∷ t2) t2 (string name) refl (data-string 126 name t2) in
    let found = put (codes "model") (string name) no_members in
    let two = members_next 126 found (codes "objects") t2 t3 (end_object ∷ []) (array all) refl list in
    let three = members_over 126 (put (codes "objects") (array all) found) (end_object ∷ []) [] refl in
    data-object 127 t1 (omega arith) ∙ ap (parse_map object) (one ∙ two ∙ three)

pub objects_are : (name : List ℕ) (all : Items) → document_objects (document_data name all) ≡ Some (elements_of all)
unfolding document_objects list_from
objects_are name all = refl

document_is : (name : List ℕ) (all : Items) (ws : List Written) → each entry_from (elements_of all) ≡ Ok ws → document_from (document_data name all) ≡ Ok (record { model = name; entries = ws })
unfolding document_from record_from list_from
document_is name all ws h = rw h refl

pub added_is : (m : Model) (all : Items) (ws : List Written) (b : Population) → each entry_from (elements_of all) ≡ Ok ws → add_entries ws (empty m) ≡ Ok b → added_from m (document_data m.name all) ≡ Ok b
unfolding added_from
added_is m all ws b h added = rw (document_is m.name all ws h, (bytes_eq-Decides m.name m.name).1 refl) added

pub finished_is : (ws : List Written) (p q r : Population) → put_entries ws p ≡ Ok q → finish_outcome q ≡ Ok r → finished_with ws p ≡ Ok r
unfolding finished_with
finished_is ws p q r h k = rw (h, k) refl
