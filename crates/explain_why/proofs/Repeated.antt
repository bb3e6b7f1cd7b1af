-- Of an `isUnique` that is false, two bodies at least are of the batch that is shown.
use Rattle.std.proofs.Common.{◌≡◌, ℕ, ◌+◌, ◌≤◌, ◌||◌, Bool, true, false, cond, not, List, [], ◌∷◌, map, Some, None, refl, sym, ap, subst, ◌∙◌, arith}
use Rattle.std.specs.Prelude.{if◌then◌else◌}
use Rattle.std.specs.List.{list_any, filter_map, count_by}
use Rattle.std.proofs.lemmas.Bool.{and_from, eq-eqb}
use Rattle.std.proofs.lemmas.List.Sums.{sum_by-cons}
use Rattle.std.proofs.lemmas.Bool.Decides.{Decides-int_eq}
use Rattle.std.proofs.lemmas.Slice.Eq.{bytes_eq-Decides}
use Rattle.ocl_base.specs.Lists.{is_among, repeats}
use Rattle.imkl_population.specs.declared.scalar.Scalar.{Scalar}
use Rattle.imkl_population.specs.declared.scalar.Scalar.TheVariants as scalar
use Rattle.imkl_population.specs.Values.{same_scalar}
use Rattle.rule_values.specs.Value.{Element, Value, Invalid, truth_value, element_value, as_element, same_element}
use Rattle.rule_values.specs.Operations.{is_true, is_invalid, equality}
use Rattle.explain_why.specs.Explanation.{Equal, Batch, decides, deciding_batch, repeated_batch}
use Rattle.explain_why.specs.Laws.{RepeatedAreShown}
use Rattle.explain_why.proofs.Left.{is_so}

-- ---- equal elements

same_itself : (v : Scalar) → same_scalar v v ≡ true
same_itself (scalar.Bool true) = refl
same_itself (scalar.Bool false) = refl
same_itself (scalar.Int a) = (Decides-int_eq a a).1 refl
same_itself (scalar.Text a) = (bytes_eq-Decides a a).1 refl
same_itself (scalar.Literal d a) = and_from _ _ (eq-eqb d d refl) (eq-eqb a a refl)
same_itself (scalar.Object a) = eq-eqb a a refl

-- an element's value is equal to itself
equal_itself : (e : Element) → is_true (equality (element_value e) (element_value e)) ≡ true
equal_itself None = refl
equal_itself (Some v) = same_itself v

-- and to another's where they are the same element
equal_is : (e f : Element) → is_true (equality (element_value e) (element_value f)) ≡ same_element e f
equal_is None None = refl
equal_is None (Some w) = refl
equal_is (Some v) None = refl
equal_is (Some v) (Some w) = refl

equal_among : (e : Element) (es : List Element) → list_any (decides (Equal (element_value e))) (map element_value es) ≡ is_among same_element es e
equal_among e [] = refl
equal_among e (f ∷ es) =
    ap (λ (b : Bool). b || list_any (decides (Equal (element_value e))) (map element_value es)) (equal_is e f)
    ∙ ap (λ (b : Bool). same_element e f || b) (equal_among e es)

-- ---- bodies that are elements

elements_again : (es : List Element) → filter_map as_element (map element_value es) ≡ es
elements_again [] = refl
elements_again (None ∷ es) = ap (λ (xs : List Element). None ∷ xs) (elements_again es)
elements_again (Some v ∷ es) = ap (λ (xs : List Element). Some v ∷ xs) (elements_again es)

none_invalid : (es : List Element) → list_any is_invalid (map element_value es) ≡ false
none_invalid [] = refl
none_invalid (None ∷ es) = none_invalid es
none_invalid (Some v ∷ es) = none_invalid es

-- ---- counting

count_first : (test : Value → Bool) (b : Value) (bs : List Value) → count_by test (b ∷ bs) ≡ cond (test b) 1 0 + count_by test bs
count_first test b bs = sum_by-cons (λ x. cond (test x) 1 0) b bs

counted : (t rest : Bool) (n : ℕ) → t || rest ≡ true → (rest ≡ true → 1 ≤ n) → 1 ≤ cond t 1 0 + n
counted true rest n h g = omega arith
counted false rest n h g = let more = g h in omega arith

some_counted : (test : Value → Bool) (bs : List Value) → list_any test bs ≡ true → 1 ≤ count_by test bs
some_counted test [] h = absurd (cc)
some_counted test (b ∷ bs) h = rw (count_first test b bs) (counted (test b) (list_any test bs) (count_by test bs) h (some_counted test bs))

one_more : (t : Bool) (n : ℕ) → t ≡ true → 1 ≤ n → 2 ≤ cond t 1 0 + n
one_more true n h g = omega arith
one_more false n h g = absurd (cc)

as_many : (t : Bool) (n : ℕ) → 2 ≤ n → 2 ≤ cond t 1 0 + n
as_many true n h = omega arith
as_many false n h = omega arith

-- the first that is repeated is shown with those equal to it
abbrev Two : Batch → List Value → Type 0
Two g bs = 2 ≤ count_by (decides g.which) bs

chosen_two : (a : Bool) (b : Value) (bs : List Value) (later : Batch) → (a ≡ true → Two (deciding_batch (Equal b)) (b ∷ bs)) → (a ≡ false → Two later (b ∷ bs)) → Two (if a then deciding_batch (Equal b) else later) (b ∷ bs)
chosen_two true b bs later first second = first refl
chosen_two false b bs later first second = second refl

or_later : (a r : Bool) → a || r ≡ true → a ≡ false → r ≡ true
or_later true r h g = absurd (cc)
or_later false r h g = h

repeated_two : (es : List Element) → repeats same_element es ≡ true → Two (repeated_batch (map element_value es)) (map element_value es)
repeated_two [] h = absurd (cc)
repeated_two (e ∷ es) h =
    let b = element_value e in
    let bs = map element_value es in
    chosen_two (list_any (decides (Equal b)) bs) b bs (repeated_batch bs)
    (λ found. subst (λ (n : ℕ). 2 ≤ n) (sym (count_first (decides (Equal b)) b bs)) (one_more (is_true (equality b b)) (count_by (decides (Equal b)) bs) (equal_itself e) (some_counted (decides (Equal b)) bs found)))
    (λ none. subst (λ (n : ℕ). 2 ≤ n) (sym (count_first (decides (repeated_batch bs).which) b bs)) (as_many _ _ (repeated_two es (or_later (is_among same_element es e) (repeats same_element es) h (sym (equal_among e es) ∙ none)))))

-- ---- the law

valid_is : (b : Bool) (r : Bool) → b ≡ false → (if b then Invalid else truth_value (not r)) ≡ truth_value false → r ≡ true
valid_is true r valid h = absurd (cc)
valid_is false r valid h = let same : not r ≡ false = cc in is_so r same

first_is : (b : Bool) (g later : Batch) (bs : List Value) → b ≡ false → Two later bs → Two (if b then g else later) bs
first_is true g later bs valid h = absurd (cc)
first_is false g later bs valid h = h

pub repeated_are_shown : RepeatedAreShown
repeated_are_shown k es h =
    let bs = map element_value es in
    let found : repeats same_element (filter_map as_element bs) ≡ true = valid_is (list_any is_invalid bs) _ (none_invalid es) h in
    first_is (list_any is_invalid bs) _ (repeated_batch bs) bs (none_invalid es) (repeated_two es (subst (λ (xs : List Element). repeats same_element xs ≡ true) (elements_again es) found))
