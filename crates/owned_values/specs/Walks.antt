-- What loops have done so far, and values taken apart.
use Rattle.std.specs.Int.Signed.{mag}
use Rattle.std.specs.Prelude.{◌≡◌, ◌≤◌, ◌*◌, ◌^◌, ℕ, ℤ, Bool, if◌then◌else◌, List, [], ◌∷◌, ◌++◌, map, Option, Some, None}
use Rattle.std.specs.Str.{IsUtf8}
use Rattle.ocl_base.specs.Lists.{is_among}
use Rattle.imkl_population.specs.declared.scalar.Scalar.TheVariants as scalar
use Rattle.rule_values.specs.Operations.{is_true, is_false}
use Rattle.rule_values.specs.Value.{Element, Value, Invalid, Single, same_element}

-- ---- whole numbers

abbrev pub integers_in : Value → Value → Option (ℤ × ℤ)
integers_in (Single (scalar.Int a)) (Single (scalar.Int b)) = Some (a, b)
integers_in v w = None

abbrev pub integer_in : Value → Option ℤ
integer_in (Single (scalar.Int a)) = Some a
integer_in v = None

-- what a checked operation gives
abbrev pub checked_value : Option ℤ → Value
checked_value (Some n) = Single (scalar.Int n)
checked_value None = Invalid

-- the size that the sum of `count` numbers of 64 bits may have
abbrev pub IsTotal : ℕ → ℤ → Type 0
IsTotal count total = mag total ≤ count * 2 ^ 63

-- ---- objects

abbrev pub objects_meant : List ℕ → List Element
objects_meant os = map (λ o. Some (scalar.Object o)) os

-- ---- elements

abbrev pub kept_one : Bool → Element → List Element
kept_one keep e = if keep then e ∷ [] else []

abbrev pub is_wanted : Bool → Value → Bool
is_wanted wanted v = if wanted then is_true v else is_false v

-- an element that is there, in a list
abbrev pub element_list : Option Element → List Element
element_list None = []
element_list (Some e) = e ∷ []

-- the elements with one more, if it isn't among them
abbrev pub with_new : List Element → Element → List Element
with_new es e = if is_among same_element es e then es else es ++ e ∷ []

-- ---- texts

-- a text ends with another, which begins where a character does
abbrev pub IsSuffix : List ℕ → List ℕ → Type 0
IsSuffix rest bytes = IsUtf8 rest × (front : List ℕ) × (bytes ≡ front ++ rest)
