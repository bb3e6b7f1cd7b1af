-- What operations on collections and the equality of values give, by their slots.
use Rattle.std.proofs.Common.{◌≡◌, ℕ, Bool, true, false, List, [], ◌∷◌, ◌++◌, length, Option, Some, None, refl, sym, ap, ◌∙◌, subst, arith, length-append}
use Rattle.std.specs.Option.{option_map}
use Rattle.std.specs.Prelude.{ℤ, pos, ◌+ℤ◌, ◌+◌, ◌-◌, not, ◌&&◌, ◌||◌, ◌==◌, if◌then◌else◌}
use Rattle.std.specs.List.{list_all, list_any}
use Rattle.std.proofs.lemmas.Bool.{and_parts}
use Rattle.ocl_base.specs.Lists.{is_among}
use Rattle.ocl_base.specs.declared.collection_kind.CollectionKind.{CollectionKind}
use Rattle.ocl_base.specs.declared.collection_kind.CollectionKind.TheVariants as collection
use Rattle.imkl_population.specs.Population.{Population}
use Rattle.imkl_population.specs.declared.scalar.Scalar.TheVariants as scalar
use Rattle.ocl_kinds.specs.declared.kind.ScalarKind.{ScalarKind}
use Rattle.ocl_kinds.specs.declared.kind.ScalarKind.TheVariants as element
use Rattle.ocl_kinds.specs.declared.kind.Kind.{Kind}
use Rattle.ocl_kinds.specs.declared.kind.Kind.TheVariants as kind
use Rattle.ocl_kinds.specs.Kinds.{is_same_collection}
use Rattle.ocl_kinds.proofs.ForAbove.{same_collection_itself, same_collection_is}
use Rattle.rule_code.specs.declared.kind.WrittenScalar.{WrittenScalar}
use Rattle.rule_code.specs.declared.kind.WrittenKind.{WrittenKind}
use Rattle.rule_code.specs.declared.kind.WrittenKind.TheVariants as kinds
use Rattle.rule_values.specs.Value as value
use Rattle.rule_values.specs.Value.{Element, Value, is_in, is_element_in, is_collection_in, are_elements, same_element, truth_value}
use Rattle.rule_values.specs.Equality.{occurrences, same_elements, equal_values}
use Rattle.rule_values.specs.Operations.{is_invalid, equality, membership, occurrence_count, inclusion, exclusion, sum_of, summation, or_invalid, integer_value, as_set, distinct}
use Rattle.rule_slots.specs.declared.slot.Slot.{Slot}
use Rattle.rule_slots.specs.declared.slot.Mark.{Mark}
use Rattle.rule_slots.specs.declared.slot.Mark.TheVariants as mark
use Rattle.rule_slots.specs.Slots.{Lists, ElementsAre, SlotIs, plain_mark, invalid_mark, held_slots, truth_slot, invalid_slot, part_slot, POOL}
use Rattle.rule_slots.specs.Operands.{is_elements_operand, integer_slot}
use Rattle.rule_slots.specs.Compared.{covers, covers_kind, same_slots, times_among, same_collections, same_values, first_ones}
use Rattle.rule_slots.specs.Summed.{sum_of_slots, summed_slot}
use Rattle.rule_slots.proofs.Alike.{slots_same, all_same, any_same, among_same, times_same, pairwise_is, often_is, first_are}
use Rattle.rule_slots.proofs.Made.{integer_is, integer_same, truth_is, unless_is, invalid_by}
use Rattle.rule_slots.proofs.Taken.{undefined}
use Rattle.rule_slots.proofs.Loops.{taken_are}

-- ---- collections of one kind

module _ (l : Lists) (p : Population) (w : WrittenScalar) (k : ScalarKind) (c : covers w k ≡ true) (ss ts : List Slot) (es fs : List Element) (h : ElementsAre l ss es) (g : ElementsAre l ts fs) (i : list_all (is_element_in p k) es ≡ true) (j : list_all (is_element_in p k) fs ≡ true) where
  -- all of the second are among the first
  pub all_among : list_all (is_among (same_slots l w) ss) ts ≡ list_all (is_among same_element es) fs
  all_among = all_same l p w k c (is_among (same_slots l w) ss) (is_among same_element es) (λ s e a b. among_same l p w k c ss es h i s e a b) ts fs g j

  -- one of the second is among the first
  pub any_among : list_any (is_among (same_slots l w) ss) ts ≡ list_any (is_among same_element es) fs
  any_among = any_same l p w k c (is_among (same_slots l w) ss) (is_among same_element es) (λ s e a b. among_same l p w k c ss es h i s e a b) ts fs g j

collections_same : (l : Lists) (p : Population) (w : WrittenScalar) (k : ScalarKind) → covers w k ≡ true → (d : CollectionKind) (ss ts : List Slot) (es fs : List Element) → ElementsAre l ss es → ElementsAre l ts fs → list_all (is_element_in p k) es ≡ true → list_all (is_element_in p k) fs ≡ true
    → same_collections (same_slots l w) d ss ts ≡ same_elements d es fs
collections_same l p w k c collection.Set ss ts es fs h g i j =
    ap (λ z. z && list_all (is_among (same_slots l w) ss) ts) (all_among l p w k c ts ss fs es g h j i) ∙ ap (λ z. list_all (is_among same_element fs) es && z) (all_among l p w k c ss ts es fs h g i j)
collections_same l p w k c collection.OrderedSet ss ts es fs h g i j = pairwise_is l p w k c ss ts es fs h g i j
collections_same l p w k c collection.Bag ss ts es fs h g i j =
    ap (λ z. z && stand_often ts ss) (often_is l p w k c ss ts es fs h g i j) ∙ ap (λ z. occur es fs && z) (often_is l p w k c ts ss fs es g h j i)
  where
    stand_often : List Slot → List Slot → Bool
    stand_often xs ys = list_all (λ x. times_among (same_slots l w) xs x == times_among (same_slots l w) ys x) xs

    occur : List Element → List Element → Bool
    occur xs ys = list_all (λ x. occurrences xs x == occurrences ys x) xs
collections_same l p w k c collection.Sequence ss ts es fs h g i j = pairwise_is l p w k c ss ts es fs h g i j

-- ---- equality

-- two values of one kind, of which none is invalid, are equal where their slots are the same
pub values_same : (l : Lists) (p : Population) (pool : List Slot) (hi : ℕ) (w : WrittenKind) (k : Kind) → covers_kind w k ≡ true → (a b : Slot) (x y : Value) → SlotIs l pool hi a x → SlotIs l pool hi b y → is_in p x k ≡ true → is_in p y k ≡ true → is_invalid x ≡ false → is_invalid y ≡ false
    → same_values l pool w a b ≡ equal_values x y
values_same l p pool hi (kinds.Scalar w) (kind.Scalar k) c a b value.Null value.Null h g i j m n = slots_same l p w k c a b None None h g refl refl
values_same l p pool hi (kinds.Scalar w) (kind.Scalar k) c a b value.Null (value.Single u) h g i j m n = slots_same l p w k c a b None (Some u) h g refl j
values_same l p pool hi (kinds.Scalar w) (kind.Scalar k) c a b (value.Single v) value.Null h g i j m n = slots_same l p w k c a b (Some v) None h g i refl
values_same l p pool hi (kinds.Scalar w) (kind.Scalar k) c a b (value.Single v) (value.Single u) h g i j m n = slots_same l p w k c a b (Some v) (Some u) h g i j
values_same l p pool hi (kinds.Collection q w) (kind.Collection d k) c a b (value.Collection e es) (value.Collection f fs) h g i j m n =
    let kinds_are = and_parts (is_same_collection q d) (covers w k) c in
    let one = and_parts (is_same_collection e d) (is_collection_in p e es k) i in
    let two = and_parts (is_same_collection f d) (is_collection_in p f fs k) j in
    let all = and_parts (are_elements e es) (list_all (is_element_in p k) es) one.1 in
    let others = and_parts (are_elements f fs) (list_all (is_element_in p k) fs) two.1 in
    let same = same_collections (same_slots l w) q (held_slots l pool a) (held_slots l pool b) in
    let ed : e ≡ d = same_collection_is e d one.0 in
    let fd : f ≡ d = same_collection_is f d two.0 in
    let ef : is_same_collection e f ≡ true = ap (λ z. is_same_collection z f) ed ∙ ap (is_same_collection d) fd ∙ same_collection_itself d in
    ap (λ z. (plain_mark z && plain_mark b.mark) && same) h.0 ∙ ap (λ z. (true && plain_mark z) && same) g.0
    ∙ collections_same l p w k kinds_are.1 q (held_slots l pool a) (held_slots l pool b) es fs h.1.elements g.1.elements all.1 others.1
    ∙ ap (λ z. same_elements z es fs) (same_collection_is q d kinds_are.0 ∙ sym ed) ∙ ap (λ z. z && same_elements e es fs) (sym ef)
values_same l p pool hi w k c a b x y h g i j m n = cc

-- two values of one kind are equal
pub equality_is : (l : Lists) (p : Population) (pool : List Slot) (hi : ℕ) (w : WrittenKind) (k : Kind) → covers_kind w k ≡ true → (a b r : Slot) → invalid_mark a.mark ≡ false → invalid_mark b.mark ≡ false → r ≡ truth_slot (same_values l pool w a b) → (x y : Value) → SlotIs l pool hi a x → SlotIs l pool hi b y → is_in p x k ≡ true → is_in p y k ≡ true
    → SlotIs l pool hi r (equality x y)
equality_is l p pool hi w k c a b r m n e x y h g i j =
    let one : is_invalid x ≡ false = sym (invalid_by l pool hi a x h) ∙ m in
    let two : is_invalid y ≡ false = sym (invalid_by l pool hi b y g) ∙ n in
    let none : false ≡ (is_invalid x || is_invalid y) = sym (ap (λ z. z || is_invalid y) one ∙ two) in
    subst (λ z. SlotIs l pool hi z (equality x y)) (sym e) (unless_is l pool hi false (is_invalid x || is_invalid y) (same_values l pool w a b) (equal_values x y) none (values_same l p pool hi w k c a b x y h g i j one two))

-- ---- sums

sum_same : (l : Lists) (p : Population) (ss : List Slot) (es : List Element) → ElementsAre l ss es → list_all (is_element_in p element.Integer) es ≡ true → sum_of_slots ss ≡ sum_of es
sum_same l p [] [] h i = refl
sum_same l p [] (e ∷ es) h i = absurd h
sum_same l p (s ∷ ss) [] h i = absurd h
sum_same l p (s ∷ ss) (Some (scalar.Int n) ∷ es) h i =
    let both = and_parts (is_element_in p element.Integer (Some (scalar.Int n))) (list_all (is_element_in p element.Integer) es) i in
    ap (λ z. if plain_mark z then option_map (λ m. s.number +ℤ m) (sum_of_slots ss) else None) h.0.0 ∙ ap (λ z. option_map (λ m. z +ℤ m) (sum_of_slots ss)) h.0.1 ∙ ap (option_map (λ m. n +ℤ m)) (sum_same l p ss es h.1 both.1)
sum_same l p (s ∷ ss) (None ∷ es) h i = ap (λ z. if plain_mark z then option_map (λ m. s.number +ℤ m) (sum_of_slots ss) else None) h.0
sum_same l p (s ∷ ss) (Some v ∷ es) h i = cc

-- the sum of a collection
pub sum_is : (l : Lists) (p : Population) (pool : List Slot) (hi : ℕ) (s r : Slot) → plain_mark s.mark ≡ true → r ≡ summed_slot (sum_of_slots (held_slots l pool s)) → (v : Value) → SlotIs l pool hi s v → is_elements_operand p element.Integer v ≡ true → SlotIs l pool hi r (summation v)
sum_is l p pool hi s r plain e (value.Collection c es) h i =
    let all = and_parts (are_elements c es) (list_all (is_element_in p element.Integer) es) i in
    by_sum (sum_of es) (e ∙ ap summed_slot (sum_same l p (held_slots l pool s) es h.1.elements all.1))
  where
    by_sum : (o : Option ℤ) → r ≡ summed_slot o → SlotIs l pool hi r (or_invalid (option_map integer_value o))
    by_sum None q = ap (λ z. z.mark) q
    by_sum (Some n) q = subst (λ z. SlotIs l pool hi z (integer_value n)) (sym q) (integer_is l pool hi n)
sum_is l p pool hi s r plain e value.Invalid h i = undefined s.mark mark.Invalid h refl plain
sum_is l p pool hi s r plain e v h i = cc

-- ---- operations on collections

-- a result that a test lets pass
chosen : (l : Lists) (pool : List Slot) (hi : ℕ) (t : Bool) (r : Slot) (v : Value) → t ≡ true → SlotIs l pool hi r v → SlotIs l pool hi (if t then r else invalid_slot) v
chosen l pool hi t r v e h = subst (λ z. SlotIs l pool hi (if z then r else invalid_slot) v) (sym e) h

chosen_truth : (l : Lists) (pool : List Slot) (hi : ℕ) (t a b : Bool) → t ≡ true → a ≡ b → SlotIs l pool hi (if t then truth_slot a else invalid_slot) (truth_value b)
chosen_truth l pool hi t a b e f = chosen l pool hi t (truth_slot a) (truth_value b) e (truth_is l pool hi a b f)

-- it is the result
pub passes : (t : Bool) (r x y : Slot) → t ≡ true → r ≡ x → (if t then x else y) ≡ r
passes t r x y e f = ap (λ z. if z then x else y) e ∙ sym f

defined : (m n o : Mark) → m ≡ mark.Plain → n ≡ o → invalid_mark o ≡ false → (plain_mark m && not (invalid_mark n)) ≡ true
defined m n o e f g = ap (λ z. plain_mark z && not (invalid_mark n)) e ∙ ap (λ z. not (invalid_mark z)) f ∙ ap not g

both_plain : (m n : Mark) → m ≡ mark.Plain → n ≡ mark.Plain → (plain_mark m && plain_mark n) ≡ true
both_plain m n e f = ap (λ z. plain_mark z && plain_mark n) e ∙ ap plain_mark f

module _ (l : Lists) (p : Population) (pool : List Slot) (hi : ℕ) (w : WrittenScalar) (k : ScalarKind) (c : covers w k ≡ true) (a b : Slot) where
  -- whether an element is in a collection
  pub membership_is : (x y : Value) → SlotIs l pool hi a x → SlotIs l pool hi b y → is_elements_operand p k x ≡ true → is_in p y (kind.Scalar k) ≡ true
      → SlotIs l pool hi (if plain_mark a.mark && not (invalid_mark b.mark) then truth_slot (is_among (same_slots l w) (held_slots l pool a) b) else invalid_slot) (membership x y)
  membership_is (value.Collection d es) value.Null h g i j =
      let all = and_parts (are_elements d es) (list_all (is_element_in p k) es) i in
      chosen_truth l pool hi _ _ _ (defined a.mark b.mark mark.Null h.0 g refl) (among_same l p w k c (held_slots l pool a) es h.1.elements all.1 b None g refl)
  membership_is (value.Collection d es) (value.Single v) h g i j =
      let all = and_parts (are_elements d es) (list_all (is_element_in p k) es) i in
      chosen_truth l pool hi _ _ _ (defined a.mark b.mark mark.Plain h.0 g.0 refl) (among_same l p w k c (held_slots l pool a) es h.1.elements all.1 b (Some v) g j)
  membership_is (value.Collection d es) value.Invalid h g i j = rw (h.0, g) refl
  membership_is value.Invalid y h g i j = rw h refl
  membership_is x y h g i j = cc

  -- how often an element is in a collection
  pub count_is : (x y : Value) → SlotIs l pool hi a x → SlotIs l pool hi b y → is_elements_operand p k x ≡ true → is_in p y (kind.Scalar k) ≡ true
      → SlotIs l pool hi (if plain_mark a.mark && not (invalid_mark b.mark) then integer_slot (pos (times_among (same_slots l w) (held_slots l pool a) b)) else invalid_slot) (occurrence_count x y)
  count_is (value.Collection d es) value.Null h g i j =
      let all = and_parts (are_elements d es) (list_all (is_element_in p k) es) i in
      chosen l pool hi _ _ _ (defined a.mark b.mark mark.Null h.0 g refl) (integer_same l pool hi _ _ (times_same l p w k c (held_slots l pool a) es h.1.elements all.1 b None g refl))
  count_is (value.Collection d es) (value.Single v) h g i j =
      let all = and_parts (are_elements d es) (list_all (is_element_in p k) es) i in
      chosen l pool hi _ _ _ (defined a.mark b.mark mark.Plain h.0 g.0 refl) (integer_same l pool hi _ _ (times_same l p w k c (held_slots l pool a) es h.1.elements all.1 b (Some v) g j))
  count_is (value.Collection d es) value.Invalid h g i j = rw (h.0, g) refl
  count_is value.Invalid y h g i j = rw h refl
  count_is x y h g i j = cc

  -- whether each element of one is in the other
  pub inclusion_is : (x y : Value) → SlotIs l pool hi a x → SlotIs l pool hi b y → is_elements_operand p k x ≡ true → is_elements_operand p k y ≡ true
      → SlotIs l pool hi (if plain_mark a.mark && plain_mark b.mark then truth_slot (list_all (is_among (same_slots l w) (held_slots l pool a)) (held_slots l pool b)) else invalid_slot) (inclusion x y)
  inclusion_is (value.Collection d es) (value.Collection e fs) h g i j =
      let all = and_parts (are_elements d es) (list_all (is_element_in p k) es) i in
      let others = and_parts (are_elements e fs) (list_all (is_element_in p k) fs) j in
      chosen_truth l pool hi _ _ _ (both_plain a.mark b.mark h.0 g.0) (all_among l p w k c (held_slots l pool a) (held_slots l pool b) es fs h.1.elements g.1.elements all.1 others.1)
  inclusion_is (value.Collection d es) value.Invalid h g i j = rw (h.0, g) refl
  inclusion_is value.Invalid y h g i j = rw h refl
  inclusion_is x y h g i j = cc

  -- whether no element of one is in the other
  pub exclusion_is : (x y : Value) → SlotIs l pool hi a x → SlotIs l pool hi b y → is_elements_operand p k x ≡ true → is_elements_operand p k y ≡ true
      → SlotIs l pool hi (if plain_mark a.mark && plain_mark b.mark then truth_slot (not (list_any (is_among (same_slots l w) (held_slots l pool a)) (held_slots l pool b))) else invalid_slot) (exclusion x y)
  exclusion_is (value.Collection d es) (value.Collection e fs) h g i j =
      let all = and_parts (are_elements d es) (list_all (is_element_in p k) es) i in
      let others = and_parts (are_elements e fs) (list_all (is_element_in p k) fs) j in
      chosen_truth l pool hi _ _ _ (both_plain a.mark b.mark h.0 g.0) (ap not (any_among l p w k c (held_slots l pool a) (held_slots l pool b) es fs h.1.elements g.1.elements all.1 others.1))
  exclusion_is (value.Collection d es) value.Invalid h g i j = rw (h.0, g) refl
  exclusion_is value.Invalid y h g i j = rw h refl
  exclusion_is x y h g i j = cc

-- the Set of a collection's elements, behind the pool as it was
pub set_is : (l : Lists) (p : Population) (w : WrittenScalar) (k : ScalarKind) → covers w k ≡ true → (old new : List Slot) (s r : Slot) (start long : ℕ) → new ≡ old ++ first_ones (same_slots l w) [] (held_slots l old s) → start ≡ length old → long ≡ length new → r ≡ part_slot POOL start (long - start) → plain_mark s.mark ≡ true
    → (v : Value) → SlotIs l old (length old) s v → is_elements_operand p k v ≡ true → SlotIs l new (length new) r (as_set v)
set_is l p w k c old new s r start long e es el er plain (value.Collection d xs) h i =
    let all = and_parts (are_elements d xs) (list_all (is_element_in p k) xs) i in
    let taken = first_ones (same_slots l w) [] (held_slots l old s) in
    let whole : length new ≡ length old + length taken = ap length e ∙ length-append old taken in
    let count : long - start ≡ length taken = omega (arith, es, el, whole) in
    let held : held_slots l new (part_slot POOL start (long - start)) ≡ taken = ap (λ z. held_slots l z (part_slot POOL start (long - start))) e ∙ taken_are l old taken (part_slot POOL start (long - start)) refl es count in
    subst (λ z. SlotIs l new (length new) z (value.Collection collection.Set (distinct xs))) (sym er) (
      refl,
      record {
        within = omega (arith, es, el, count, whole);
        elements = subst (λ z. ElementsAre l z (distinct xs)) (sym held) (first_are l p w k c [] (held_slots l old s) [] xs tt refl h.1.elements all.1);
      },
    )
set_is l p w k c old new s r start long e es el er plain value.Invalid h i = undefined s.mark mark.Invalid h refl plain
set_is l p w k c old new s r start long e es el er plain v h i = cc
