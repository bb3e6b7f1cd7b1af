-- The operations on values.
use Rattle.std.specs.Prelude.{ℕ, ◌-◌, ◌==◌, ℤ, pos, ◌+ℤ◌, ◌-ℤ◌, ◌*ℤ◌, neg_ℤ, int_lt, int_le, int_div, ◌||◌, ◌&&◌, Bool, true, false, not, List, [], ◌∷◌, ◌++◌, map, length, Option, Some, None, nat_le, slice_range, if◌then◌else◌}
use Rattle.std.specs.Int.{int_min, int_max}
use Rattle.std.specs.Ordering.{int_eq}
use Rattle.std.specs.Option.{option_map}
use Rattle.std.specs.List.{list_all, list_any}
use Rattle.ocl_base.specs.Lists.{is_among}
use Rattle.ocl_base.specs.declared.collection_kind.CollectionKind.{CollectionKind}
use Rattle.ocl_base.specs.declared.collection_kind.CollectionKind.TheVariants as collection
use Rattle.imkl_model.specs.declared.feature.FeatureInfo.{FeatureInfo}
use Rattle.imkl_model.specs.ClassModel.{conforms, feature_at, belongs}
use Rattle.imkl_model.specs.Features.{is_single}
use Rattle.imkl_population.specs.declared.scalar.Scalar.{Scalar}
use Rattle.imkl_population.specs.declared.scalar.Scalar.TheVariants as scalar
use Rattle.imkl_population.specs.Population.{Population, class_of, values_of, instances}
use Rattle.imkl_population.specs.Values.{is_integer}
use Rattle.rule_values.specs.Value.{Element, Value, Invalid, Null, Single, Collection, truth_value, object_value, same_element}
use Rattle.rule_values.specs.Equality.{occurrences, equal_values}

-- ---- whole numbers

-- a result out of range is invalid
abbrev pub integer_value : ℤ → Value
integer_value n = if is_integer n then Single (scalar.Int n) else Invalid

-- of two whole numbers; with null or invalid it is invalid
abbrev pub on_integers : (ℤ → ℤ → Value) → Value → Value → Value
on_integers f (Single (scalar.Int a)) (Single (scalar.Int b)) = f a b
on_integers f v w = Invalid

abbrev pub on_integer : (ℤ → Value) → Value → Value
on_integer f (Single (scalar.Int a)) = f a
on_integer f v = Invalid

abbrev pub addition : Value → Value → Value
addition v w = on_integers (λ a b. integer_value (a +ℤ b)) v w

abbrev pub subtraction : Value → Value → Value
subtraction v w = on_integers (λ a b. integer_value (a -ℤ b)) v w

abbrev pub multiplication : Value → Value → Value
multiplication v w = on_integers (λ a b. integer_value (a *ℤ b)) v w

-- towards zero; by zero it is invalid
abbrev pub division : Value → Value → Value
division v w = on_integers (λ a b. if int_eq b (pos 0) then Invalid else integer_value (int_div a b)) v w

-- what the quotient leaves, in numbers without limit
abbrev pub remainder : Value → Value → Value
remainder v w = on_integers (λ a b. if int_eq b (pos 0) then Invalid else integer_value (a -ℤ (int_div a b *ℤ b))) v w

abbrev pub lesser : Value → Value → Value
lesser v w = on_integers (λ a b. integer_value (int_min a b)) v w

abbrev pub greater : Value → Value → Value
greater v w = on_integers (λ a b. integer_value (int_max a b)) v w

abbrev pub negative : Value → Value
negative v = on_integer (λ a. integer_value (neg_ℤ a)) v

abbrev pub absolute : Value → Value
absolute v = on_integer (λ a. integer_value (int_max a (neg_ℤ a))) v

abbrev pub less_than : Value → Value → Value
less_than v w = on_integers (λ a b. truth_value (int_lt a b)) v w

abbrev pub at_most : Value → Value → Value
at_most v w = on_integers (λ a b. truth_value (int_le a b)) v w

-- ---- truth

abbrev pub is_true : Value → Bool
is_true (Single (scalar.Bool b)) = b
is_true v = false

abbrev pub is_false : Value → Bool
is_false (Single (scalar.Bool b)) = not b
is_false v = false

-- true where it is known to be true, false where it is known to be false, else invalid
abbrev pub truth_known : Bool → Bool → Value
truth_known is_so is_not = if is_so then truth_value true else (if is_not then truth_value false else Invalid)

abbrev pub negation : Value → Value
negation v = truth_known (is_false v) (is_true v)

-- false where one is false, whatever the other
abbrev pub conjunction : Value → Value → Value
conjunction v w = truth_known (is_true v && is_true w) (is_false v || is_false w)

-- true where one is true, whatever the other
abbrev pub disjunction : Value → Value → Value
disjunction v w = truth_known (is_true v || is_true w) (is_false v && is_false w)

abbrev pub exclusive_disjunction : Value → Value → Value
exclusive_disjunction v w = truth_known ((is_true v && is_false w) || (is_false v && is_true w)) ((is_true v && is_true w) || (is_false v && is_false w))

-- true where the first is false or the second is true, whatever the other
abbrev pub implication : Value → Value → Value
implication v w = truth_known (is_false v || is_true w) (is_true v && is_false w)

-- ---- any values

abbrev pub is_invalid : Value → Bool
is_invalid Invalid = true
is_invalid v = false

abbrev pub is_null : Value → Bool
is_null Null = true
is_null v = false

-- a test of two values, of which neither is invalid
abbrev pub unless_invalid : Value → Value → Bool → Value
unless_invalid v w b = if is_invalid v || is_invalid w then Invalid else truth_value b

abbrev pub equality : Value → Value → Value
equality v w = unless_invalid v w (equal_values v w)

-- the equality of values whose kinds have nothing in common but null
abbrev pub both_null : Value → Value → Value
both_null v w = unless_invalid v w (is_null v && is_null w)

abbrev pub undefined_test : Value → Value
undefined_test v = truth_value (is_invalid v || is_null v)

abbrev pub invalid_test : Value → Value
invalid_test v = truth_value (is_invalid v)

-- ---- texts

abbrev pub text_length : Value → Value
text_length (Single (scalar.Text t)) = integer_value (pos (length t))
text_length v = Invalid

-- the characters from a to b, counted from 1, both included; invalid unless 1 ≤ a ≤ b ≤ the text's length
abbrev pub characters : List ℕ → ℤ → ℤ → Value
characters t (pos a) (pos b) =
    if nat_le 1 a && nat_le a b && nat_le b (length t) then Single (scalar.Text (slice_range t (a - 1) b)) else Invalid
characters t a b = Invalid

abbrev pub substring : Value → Value → Value → Value
substring (Single (scalar.Text t)) lower upper = on_integers (characters t) lower upper
substring v lower upper = Invalid

-- ---- objects

-- of null or invalid it is invalid
abbrev pub on_object : (ℕ → Value) → Value → Value
on_object f (Single (scalar.Object o)) = f o
on_object f v = Invalid

-- an object's class is the class or a subclass of it
abbrev pub kind_test : Population → ℕ → Value → Value
kind_test p c v = on_object (λ o. truth_value (conforms p.model (class_of p o) c)) v

-- an object's class is the class itself
abbrev pub type_test : Population → ℕ → Value → Value
type_test p c v = on_object (λ o. truth_value (class_of p o == c)) v

-- the object, invalid where it isn't of the class
abbrev pub cast : Population → ℕ → Value → Value
cast p c v = on_object (λ o. if conforms p.model (class_of p o) c then object_value o else Invalid) v

-- nothing is null
abbrev pub single_value : List Scalar → Value
single_value [] = Null
single_value (v ∷ vs) = Single v

-- a feature with upper bound 1 gives the value itself, each other a collection
abbrev pub feature_value : FeatureInfo → List Scalar → Value
feature_value f vs = if is_single f.upper then single_value vs else Collection f.kind (map Some vs)

-- a feature of an object, which must belong to its class; of null and invalid it is invalid
abbrev pub value_read : Population → ℕ → Value → Option Value
value_read p f (Single (scalar.Object o)) =
    if belongs p.model (class_of p o) f then Some (feature_value (feature_at p.model f) (values_of p o f)) else None
value_read p f Null = Some Invalid
value_read p f Invalid = Some Invalid
value_read p f v = None

abbrev pub all_instances : Population → ℕ → Value
all_instances p c = Collection collection.Set (map (λ o. Some (scalar.Object o)) (instances p c))

-- ---- collections; each is invalid where the source or an argument is

-- a collection of the one value; of null it is empty
abbrev pub as_collection : CollectionKind → Value → Value
as_collection c Null = Collection c []
as_collection c (Single v) = Collection c (Some v ∷ [])
as_collection c v = Invalid

abbrev pub on_elements : (List Element → Value) → Value → Value
on_elements f (Collection c es) = f es
on_elements f v = Invalid

abbrev pub collection_size : Value → Value
collection_size v = on_elements (λ es. integer_value (pos (length es))) v

abbrev pub emptiness : Value → Value
emptiness v = on_elements (λ es. truth_value (length es == 0)) v

-- of a collection and an element, which may be null
abbrev pub on_element : (Element → Value) → Value → Value
on_element f Null = f None
on_element f (Single v) = f (Some v)
on_element f v = Invalid

abbrev pub membership : Value → Value → Value
membership v w = on_elements (λ es. on_element (λ e. truth_value (is_among same_element es e)) w) v

abbrev pub occurrence_count : Value → Value → Value
occurrence_count v w = on_elements (λ es. on_element (λ e. integer_value (pos (occurrences es e))) w) v

-- whether each element of the second collection is in the first
abbrev pub inclusion : Value → Value → Value
inclusion v w = on_elements (λ es. on_elements (λ fs. truth_value (list_all (is_among same_element es) fs)) w) v

-- whether no element of the second collection is in the first
abbrev pub exclusion : Value → Value → Value
exclusion v w = on_elements (λ es. on_elements (λ fs. truth_value (not (list_any (is_among same_element es) fs))) w) v

-- the sum of whole numbers, in numbers without limit; there is none where an element is null
abbrev pub sum_of : List Element → Option ℤ
sum_of [] = Some (pos 0)
sum_of (Some (scalar.Int n) ∷ es) = option_map (λ m. n +ℤ m) (sum_of es)
sum_of es = None

abbrev pub or_invalid : Option Value → Value
or_invalid None = Invalid
or_invalid (Some v) = v

abbrev pub summation : Value → Value
summation v = on_elements (λ es. or_invalid (option_map integer_value (sum_of es))) v

-- each element once, where it first stands
abbrev pub distinct_after : List Element → List Element → List Element
distinct_after before [] = []
distinct_after before (e ∷ es) =
    if is_among same_element before e then distinct_after before es else e ∷ distinct_after (before ++ e ∷ []) es

abbrev pub distinct : List Element → List Element
distinct es = distinct_after [] es

abbrev pub as_set : Value → Value
as_set v = on_elements (λ es. Collection collection.Set (distinct es)) v
