-- Elements each taken once.
use Rattle.std.proofs.Common.{◌≡◌, suc, ◌≤◌, Bool, true, false, List, [], ◌∷◌, ◌++◌, length, Some, None, refl, ap, ◌∙◌, arith}
use Rattle.std.specs.Prelude.{◌==◌, ℤ, not, if◌then◌else◌}
use Rattle.std.specs.List.{list_all, list_any}
use Rattle.std.specs.Ordering.{int_eq}
use Rattle.std.proofs.lemmas.Bool.{and_parts, and_from, or_from, or_left, or_right, eqb-true, eq-eqb, false_from_ne_true}
use Rattle.std.proofs.lemmas.List.Folds.{list_any-append}
use Rattle.std.proofs.lemmas.Bool.Decides.{Decides-int_eq}
use Rattle.std.proofs.lemmas.Slice.Eq.{bytes_eq-Decides}
use Rattle.ocl_base.specs.Lists.{is_among, repeats}
use Rattle.imkl_population.specs.declared.scalar.Scalar.{Scalar}
use Rattle.imkl_population.specs.declared.scalar.Scalar.TheVariants as scalar
use Rattle.imkl_population.specs.Values.{same_scalar}
use Rattle.rule_values.specs.Value.{Element, same_element}
use Rattle.rule_values.specs.Equality.{same_lists}
use Rattle.rule_values.specs.Operations.{distinct_after, distinct}

bool_is : (a b : Bool) → (if a then b else not b) ≡ true → a ≡ b
bool_is true true h = refl
bool_is true false h = cc
bool_is false true h = cc
bool_is false false h = refl

int_is : (a b : ℤ) → int_eq a b ≡ true → a ≡ b
int_is a b h = (Decides-int_eq a b).0 h

-- scalars that are the same are equal
same_scalar_is : (v w : Scalar) → same_scalar v w ≡ true → v ≡ w
same_scalar_is (scalar.Bool a) (scalar.Bool b) h = ap scalar.Bool (bool_is a b h)
same_scalar_is (scalar.Int a) (scalar.Int b) h = ap scalar.Int (int_is a b h)
same_scalar_is (scalar.Text a) (scalar.Text b) h = ap scalar.Text ((bytes_eq-Decides a b).0 h)
same_scalar_is (scalar.Literal d a) (scalar.Literal e b) h =
    let parts = and_parts (d == e) (a == b) h in
    ap (λ x. scalar.Literal x a) (eqb-true d e parts.0) ∙ ap (scalar.Literal e) (eqb-true a b parts.1)
same_scalar_is (scalar.Object a) (scalar.Object b) h = ap scalar.Object (eqb-true a b h)
same_scalar_is v w h = cc

same_element_is : (e f : Element) → same_element e f ≡ true → e ≡ f
same_element_is None None h = refl
same_element_is (Some v) (Some w) h = ap Some (same_scalar_is v w h)
same_element_is e f h = cc

abbrev Among : List Element → Element → Bool
Among es e = is_among same_element es e

differs : (before : List Element) (e x : Element) (b : Bool) → same_element x e ≡ b → Among before x ≡ true → Among before e ≡ false → b ≡ false
differs before e x true s h a = let same : Among before x ≡ Among before e = ap (Among before) (same_element_is x e s) in cc
differs before e x false s h a = refl

next_not_again : (before es : List Element) (e x : Element) (b : Bool) → Among before e ≡ b → Among before x ≡ true → list_any (same_element x) (distinct_after before es) ≡ false → list_any (same_element x) (distinct_after (before ++ e ∷ []) es) ≡ false → list_any (same_element x) (if b then distinct_after before es else e ∷ distinct_after (before ++ e ∷ []) es) ≡ false
next_not_again before es e x true a h passed taken = passed
next_not_again before es e x false a h passed taken = or_from _ _ (differs before e x (same_element x e) refl h a) taken

-- what is taken already isn't taken again
not_again : (before es : List Element) (x : Element) → Among before x ≡ true → list_any (same_element x) (distinct_after before es) ≡ false
not_again before [] x h = refl
not_again before (e ∷ es) x h =
    next_not_again before es e x (Among before e) refl h (not_again before es x h) (not_again (before ++ e ∷ []) es x (list_any-append (same_element x) before (e ∷ []) ∙ or_left (Among before x) _ h))

next_apart : (before es : List Element) (e : Element) (b : Bool) → repeats same_element (distinct_after before es) ≡ false → repeats same_element (distinct_after (before ++ e ∷ []) es) ≡ false → list_any (same_element e) (distinct_after (before ++ e ∷ []) es) ≡ false → repeats same_element (if b then distinct_after before es else e ∷ distinct_after (before ++ e ∷ []) es) ≡ false
next_apart before es e true passed taken apart = passed
next_apart before es e false passed taken apart = or_from _ _ apart taken

same_scalar_itself : (v : Scalar) → same_scalar v v ≡ true
same_scalar_itself (scalar.Bool true) = refl
same_scalar_itself (scalar.Bool false) = refl
same_scalar_itself (scalar.Int a) = (Decides-int_eq a a).1 refl
same_scalar_itself (scalar.Text a) = (bytes_eq-Decides a a).1 refl
same_scalar_itself (scalar.Literal d a) = and_from _ _ (eq-eqb d d refl) (eq-eqb a a refl)
same_scalar_itself (scalar.Object a) = eq-eqb a a refl

same_itself : (e : Element) → same_element e e ≡ true
same_itself None = refl
same_itself (Some v) = same_scalar_itself v

apart_after : (before es : List Element) → repeats same_element (distinct_after before es) ≡ false
apart_after before [] = refl
apart_after before (e ∷ es) =
    next_apart before es e (Among before e) (apart_after before es) (apart_after (before ++ e ∷ []) es) (not_again (before ++ e ∷ []) es e (list_any-append (same_element e) before (e ∷ []) ∙ or_right (Among before e) _ (or_left (same_element e e) false (same_itself e))))

-- none of them is twice among those that are distinct
pub distinct_apart : (es : List Element) → repeats same_element (distinct es) ≡ false
distinct_apart es = apart_after [] es

next_all : (test : Element → Bool) (before es : List Element) (e : Element) (b : Bool) → test e ≡ true → list_all test (distinct_after before es) ≡ true → list_all test (distinct_after (before ++ e ∷ []) es) ≡ true → list_all test (if b then distinct_after before es else e ∷ distinct_after (before ++ e ∷ []) es) ≡ true
next_all test before es e true h passed taken = passed
next_all test before es e false h passed taken = and_from _ _ h taken

all_after : (test : Element → Bool) (before es : List Element) → list_all test es ≡ true → list_all test (distinct_after before es) ≡ true
all_after test before [] h = refl
all_after test before (e ∷ es) h =
    let parts = and_parts (test e) (list_all test es) h in
    next_all test before es e (Among before e) parts.0 (all_after test before es parts.1) (all_after test (before ++ e ∷ []) es parts.1)

-- what holds of all holds of those that are distinct
pub distinct_all : (test : Element → Bool) (es : List Element) → list_all test es ≡ true → list_all test (distinct es) ≡ true
distinct_all test es h = all_after test [] es h

next_fewer : (before es : List Element) (e : Element) (b : Bool) → length (distinct_after before es) ≤ length es → length (distinct_after (before ++ e ∷ []) es) ≤ length es → length (if b then distinct_after before es else e ∷ distinct_after (before ++ e ∷ []) es) ≤ suc (length es)
next_fewer before es e true passed taken = omega (arith, passed)
next_fewer before es e false passed taken = omega (arith, taken)

fewer_after : (before es : List Element) → length (distinct_after before es) ≤ length es
fewer_after before [] = omega arith
fewer_after before (e ∷ es) = next_fewer before es e (Among before e) (fewer_after before es) (fewer_after (before ++ e ∷ []) es)

-- distinct elements are no more than all
pub distinct_fewer : (es : List Element) → length (distinct es) ≤ length es
distinct_fewer es = fewer_after [] es

-- lists that are the same are as long
pub same_lists_length : (es fs : List Element) → same_lists es fs ≡ true → length es ≡ length fs
same_lists_length [] [] h = refl
same_lists_length [] (f ∷ fs) h = cc
same_lists_length (e ∷ es) [] h = cc
same_lists_length (e ∷ es) (f ∷ fs) h = ap suc (same_lists_length es fs (and_parts (same_element e f) (same_lists es fs) h).1)

-- lists of different lengths aren't the same
pub different_lengths : (es fs : List Element) → (length es ≡ length fs → ⊥) → same_lists es fs ≡ false
different_lengths es fs apart = false_from_ne_true (same_lists es fs) (λ h. apart (same_lists_length es fs h))
