-- What slots stand for: elements one by one, the population's values and instances, and parts of texts.
use Rattle.std.proofs.Common.{◌≡◌, ℕ, zero, suc, ◌+◌, ◌<◌, ◌≤◌, true, false, List, [], ◌∷◌, ◌++◌, length, map, take, drop, get_or, Some, None, refl, sym, ap, ◌∙◌, subst, arith, append_assoc, append-nil, length-append}
use Rattle.std.proofs.lemmas.List.{drop-drop, drop_all, drop_more, length-take-le, take-append-drop}
use Rattle.std.proofs.lemmas.Str.{encodes-append, encodes-chars}
use Rattle.std.proofs.lemmas.Option.{slice_get-get_or}
use Rattle.std.specs.Str.{chars, IsUtf8}
use Rattle.rule_code.specs.Content.{text_at}
use Rattle.std.specs.Prelude.{◌-◌, encode_utf8_all, ◌==◌, slice_get, slice_range, if◌then◌else◌}
use Rattle.imkl_population.specs.declared.scalar.Scalar.{Scalar}
use Rattle.imkl_population.specs.declared.scalar.Scalar.TheVariants as scalar
use Rattle.ocl_base.specs.declared.collection_kind.CollectionKind.{CollectionKind}
use Rattle.imkl_model.specs.declared.feature.FeatureInfo.{FeatureInfo}
use Rattle.imkl_model.specs.Features.{is_single}
use Rattle.rule_values.specs.Operations.{single_value, feature_value}
use Rattle.rule_values.specs.Value as value
use Rattle.rule_values.specs.Value.{Element, Value, element_value}
use Rattle.rule_slots.specs.declared.slot.Slot.{Slot}
use Rattle.rule_slots.specs.Slots.{Lists, ElementIs, ElementsAre, PartIs, SlotIs, SlotsAre, TextIs, IsTextAt, index_slot, part_slot, scalar_slot, scalar_slots, held_slots, home_named, object_elements, text_slot, SCALARS, INSTANCES, UNIT_TEXT}
use Rattle.rule_slots.proofs.Parts.{part_long}

-- there are as many slots as values
pub slots_long : (l : Lists) (p : List Slot) (hi : ℕ) (ss : List Slot) (vs : List Value) → SlotsAre l p hi ss vs → length ss ≡ length vs
slots_long l p hi [] [] h = refl
slots_long l p hi [] (v ∷ vs) h = absurd h
slots_long l p hi (s ∷ ss) [] h = absurd h
slots_long l p hi (s ∷ ss) (v ∷ vs) h = ap suc (slots_long l p hi ss vs h.1)

-- as many slots as elements
pub elements_long : (l : Lists) (ss : List Slot) (es : List Element) → ElementsAre l ss es → length ss ≡ length es
elements_long l [] [] h = refl
elements_long l [] (e ∷ es) h = absurd h
elements_long l (s ∷ ss) [] h = absurd h
elements_long l (s ∷ ss) (e ∷ es) h = ap suc (elements_long l ss es h.1)

-- ---- elements

-- one list of elements behind another
pub elements_join : (l : Lists) (ss ts : List Slot) (es fs : List Element) → ElementsAre l ss es → ElementsAre l ts fs → ElementsAre l (ss ++ ts) (es ++ fs)
elements_join l [] ts [] fs h k = k
elements_join l [] ts (e ∷ es) fs h k = absurd h
elements_join l (s ∷ ss) ts [] fs h k = absurd h
elements_join l (s ∷ ss) ts (e ∷ es) fs h k = (h.0, elements_join l ss ts es fs h.1 k)

-- a collection has as many elements as its slot says
pub as_many : (l : Lists) (p : List Slot) (hi : ℕ) (s : Slot) (es : List Element) → hi ≤ length p → PartIs l p hi s es → length es ≡ s.count
as_many l p hi s es le h =
    sym (elements_long l (held_slots l p s) es h.elements) ∙ part_long (home_named s.list) l p hi s.start s.count le h.within

-- the next element
pub element_next : (l : Lists) (ss : List Slot) (es : List Element) (k : ℕ) (e : Slot) → ElementsAre l ss es → slice_get ss k ≡ Some e → (x : Element) × (drop k es ≡ x ∷ drop (suc k) es) × ElementIs l e x
element_next l [] es k e h g = cc
element_next l (s ∷ ss) [] k e h g = absurd h
element_next l (s ∷ ss) (x ∷ es) zero e h g = let q : s ≡ e = cc in (x, refl, subst (λ y. ElementIs l y x) q h.0)
element_next l (s ∷ ss) (x ∷ es) (suc k) e h g = element_next l ss es k e h.1 g

-- an element as a value of its own
pub element_slot : (l : Lists) (p : List Slot) (hi : ℕ) (e : Slot) (x : Element) → ElementIs l e x → SlotIs l p hi e (element_value x)
element_slot l p hi e None h = h
element_slot l p hi e (Some v) h = h

-- with all elements taken none is left
pub none_left : (es : List Element) (k : ℕ) → length es ≤ k → drop k es ≡ []
none_left es k le = drop_all k es le

-- ---- parts of lists

-- the items of a part, with those before and behind it
around : {A : Type 0} (t : List A) (k b : ℕ) → k ≤ b → take k t ++ (slice_range t k b ++ drop b t) ≡ t
around t k b le =
    let e : k + (b - k) ≡ b = omega arith in
    let last : drop b t ≡ drop (b - k) (drop k t) = ap (λ n. drop n t) (sym e) ∙ sym (drop-drop (b - k) k t) in
    ap (λ x. take k t ++ (slice_range t k b ++ x)) last ∙ ap (λ x. take k t ++ x) (take-append-drop (b - k) (drop k t)) ∙ take-append-drop k t

-- ---- parts of the population

at_seam : {A : Type 0} (xs : List A) (x : A) (ys : List A) → slice_get (xs ++ x ∷ ys) (length xs) ≡ Some x
at_seam [] x ys = refl
at_seam (z ∷ xs) x ys = at_seam xs x ys

-- the slot of a value of the population stands for it
pub one_scalar : (l : Lists) (i : ℕ) (v : Scalar) → slice_get l.scalars i ≡ Some v → ElementIs l (scalar_slot i v) (Some v)
one_scalar l i (scalar.Bool true) e = (refl, refl)
one_scalar l i (scalar.Bool false) e = (refl, refl)
one_scalar l i (scalar.Int n) e = (refl, refl)
one_scalar l i (scalar.Text t) e = (refl, record { front = []; rest = []; there = e ∙ ap (λ x. Some (scalar.Text x)) (sym (append-nil t)); start = refl; count = refl })
one_scalar l i (scalar.Literal d x) e = (refl, refl)
one_scalar l i (scalar.Object o) e = (refl, refl)

-- values of the population, where they stand
pub scalars_are : (l : Lists) (front vs rest : List Scalar) → l.scalars ≡ front ++ (vs ++ rest) → ElementsAre l (scalar_slots (length front) vs) (map (λ v. Some v) vs)
scalars_are l front [] rest e = tt
scalars_are l front (v ∷ vs) rest e =
    let n : length (front ++ v ∷ []) ≡ length front + 1 = omega (arith, length-append front (v ∷ [])) in
    let here = one_scalar l (length front) v (ap (λ x. slice_get x (length front)) e ∙ at_seam front v (vs ++ rest)) in
    (here, subst (λ k. ElementsAre l (scalar_slots k vs) (map (λ x. Some x) vs)) n (scalars_are l (front ++ v ∷ []) vs rest (e ∙ sym (append_assoc front (v ∷ []) (vs ++ rest)))))

-- instances
pub instances_are : (l : Lists) (os : List ℕ) → ElementsAre l (map index_slot os) (object_elements os)
instances_are l [] = tt
instances_are l (o ∷ os) = ((refl, refl), instances_are l os)

-- a part of the instances
pub all_is : (l : Lists) (p : List Slot) (hi : ℕ) (c : CollectionKind) (a n : ℕ) (os : List ℕ) → a + n ≤ length l.instances → slice_range l.instances a (a + n) ≡ os → SlotIs l p hi (part_slot INSTANCES a n) (value.Collection c (object_elements os))
all_is l p hi c a n os le e = (refl, record { within = le; elements = subst (λ x. ElementsAre l (map index_slot x) (object_elements os)) (sym e) (instances_are l os) })

-- the instances of a range
pub instances_range : (l : Lists) (p : List Slot) (hi : ℕ) (c : CollectionKind) (r : Slot) (a b : ℕ) (os : List ℕ) → r ≡ part_slot INSTANCES a (b - a) → a ≤ b → b ≤ length l.instances → slice_range l.instances a b ≡ os → SlotIs l p hi r (value.Collection c (object_elements os))
instances_range l p hi c r a b os e le w g =
    let n : a + (b - a) ≡ b = omega arith in
    subst (λ z. SlotIs l p hi z (value.Collection c (object_elements os))) (sym e) (all_is l p hi c a (b - a) os (omega (arith, n, w)) (ap (slice_range l.instances a) n ∙ g))

-- the population's values of a range
pub scalars_range : (l : Lists) (p : List Slot) (hi : ℕ) (c : CollectionKind) (r : Slot) (a b : ℕ) (vs : List Scalar) → r ≡ part_slot SCALARS a (b - a) → a ≤ b → b ≤ length l.scalars → slice_range l.scalars a b ≡ vs → SlotIs l p hi r (value.Collection c (map (λ v. Some v) vs))
scalars_range l p hi c r a b vs e le w g =
    let n : a + (b - a) ≡ b = omega arith in
    let long : length (take a l.scalars) ≡ a = length-take-le a l.scalars (omega (arith, le, w)) in
    let whole : l.scalars ≡ take a l.scalars ++ (vs ++ drop b l.scalars) = sym (around l.scalars a b le) ∙ ap (λ x. take a l.scalars ++ (x ++ drop b l.scalars)) g in
    let held : ElementsAre l (scalar_slots a (slice_range l.scalars a (a + (b - a)))) (map (λ v. Some v) vs) =
    subst (λ x. ElementsAre l (scalar_slots a x) (map (λ v. Some v) vs)) (sym (ap (slice_range l.scalars a) n ∙ g))
    (subst (λ k. ElementsAre l (scalar_slots k vs) (map (λ v. Some v) vs)) long (scalars_are l (take a l.scalars) vs (drop b l.scalars) whole)) in
    subst (λ z. SlotIs l p hi z (value.Collection c (map (λ v. Some v) vs))) (sym e) (refl, record { within = omega (arith, n, w); elements = held })

-- the first of the population's values of a range
pub first_scalar : (l : Lists) (p : List Slot) (hi : ℕ) (r : Slot) (a b : ℕ) (d : Scalar) (vs : List Scalar) → r ≡ scalar_slot a (get_or l.scalars a d) → a < b → b ≤ length l.scalars → slice_range l.scalars a b ≡ vs → SlotIs l p hi r (single_value vs)
first_scalar l p hi r a b d vs e lt w g =
    let inside : a < length l.scalars = omega (arith, lt, w) in
    let n : b - a ≡ suc (b - a - 1) = omega (arith, lt) in
    let v = get_or l.scalars a d in
    let begins : v ∷ take (b - a - 1) (drop (a + 1) l.scalars) ≡ vs = sym (ap (λ k. take k (drop a l.scalars)) n ∙ ap (take (suc (b - a - 1))) (drop_more l.scalars a d inside)) ∙ g in
    let one = one_scalar l a v (slice_get-get_or l.scalars a d inside) in
    subst (λ x. SlotIs l p hi r (single_value x)) begins (subst (λ z. SlotIs l p hi z (value.Single v)) (sym e) one)

-- the value of a feature, as its upper bound says
pub feature_many : (l : Lists) (p : List Slot) (hi : ℕ) (r : Slot) (f : FeatureInfo) (vs : List Scalar) → is_single f.upper ≡ false → SlotIs l p hi r (value.Collection f.kind (map (λ v. Some v) vs)) → SlotIs l p hi r (feature_value f vs)
feature_many l p hi r f vs e h = subst (λ z. SlotIs l p hi r (if z then single_value vs else value.Collection f.kind (map (λ v. Some v) vs))) (sym e) h

-- with upper bound 1 it is the value itself
pub feature_one : (l : Lists) (p : List Slot) (hi : ℕ) (r : Slot) (f : FeatureInfo) (vs : List Scalar) → is_single f.upper ≡ true → SlotIs l p hi r (single_value vs) → SlotIs l p hi r (feature_value f vs)
feature_one l p hi r f vs e h = subst (λ z. SlotIs l p hi r (if z then single_value vs else value.Collection f.kind (map (λ v. Some v) vs))) (sym e) h

-- ---- texts

-- a part of a text is a slot's text with a narrower range
pub part_of_text : (l : Lists) (s : Slot) (t : List ℕ) (k b start count : ℕ) → k ≤ b → TextIs l s t → start ≡ s.start + length (encode_utf8_all (take k t)) → count ≡ length (encode_utf8_all (slice_range t k b))
    → TextIs l (record s { start = start; count = count }) (slice_range t k b)
part_of_text l s t k b start count le h es ec =
    let whole : h.front ++ (t ++ h.rest) ≡ (h.front ++ take k t) ++ (slice_range t k b ++ (drop b t ++ h.rest)) =
    ap (λ x. h.front ++ (x ++ h.rest)) (sym (around t k b le)) ∙ ap (λ x. h.front ++ x) (append_assoc (take k t) (slice_range t k b ++ drop b t) h.rest ∙ ap (λ x. take k t ++ x) (append_assoc (slice_range t k b) (drop b t) h.rest))
    ∙ sym (append_assoc h.front (take k t) (slice_range t k b ++ (drop b t ++ h.rest))) in
    record {
      front = h.front ++ take k t;
      rest = drop b t ++ h.rest;
      there = subst (IsTextAt (s.list == 0) l s.index) whole h.there;
      start = es ∙ ap (λ n. n + length (encode_utf8_all (take k t))) h.start ∙ sym (length-append (encode_utf8_all h.front) (encode_utf8_all (take k t))) ∙ ap length (sym (encodes-append h.front (take k t)));
      count = ec;
    }

-- the slot of a text of the unit stands for it
pub unit_text_is : (l : Lists) (p : List Slot) (hi : ℕ) (r : Slot) (i n : ℕ) (bytes : List ℕ) → r ≡ text_slot UNIT_TEXT i 0 (length bytes) → i ≡ n → bytes ≡ text_at l.texts n → IsUtf8 bytes → n < length l.texts
    → SlotIs l p hi r (value.Single (scalar.Text (chars (text_at l.texts n))))
unit_text_is l p hi r i n bytes er ei eb u lt =
    let t = chars (text_at l.texts n) in
    let spelled : encode_utf8_all t ≡ bytes = ap (λ z. encode_utf8_all (chars z)) (sym eb) ∙ encodes-chars bytes u in
    let whole : encode_utf8_all (t ++ []) ≡ bytes = ap encode_utf8_all (append-nil t) ∙ spelled in
    let there : slice_get l.texts i ≡ Some (encode_utf8_all (t ++ [])) = ap (slice_get l.texts) ei ∙ slice_get-get_or l.texts n [] lt ∙ ap Some (sym eb ∙ sym whole) in
    subst (λ z. SlotIs l p hi z (value.Single (scalar.Text t))) (sym er) (refl, record { front = []; rest = []; there = there; start = refl; count = ap length (sym spelled) })
