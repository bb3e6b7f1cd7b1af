-- Which values may stand at a feature.
use Rattle.std.specs.Prelude.{ℕ, ◌-◌, ◌^◌, ◌==◌, ℤ, pos, negsuc, int_le, ◌&&◌, Bool, true, false, not, List, Option, Some, None, nat_lt, bytes_eq, length, if◌then◌else◌}
use Rattle.std.specs.Ordering.{int_eq}
use Rattle.ocl_base.specs.Lists.{is_among, repeats}
use Rattle.imkl_model.specs.declared.feature.ElementType.{ElementType}
use Rattle.imkl_model.specs.declared.feature.ElementType.TheVariants as element
use Rattle.imkl_model.specs.ClassModel.{Model, enumeration_at, conforms}
use Rattle.imkl_population.specs.declared.scalar.Scalar.{Scalar}
use Rattle.imkl_population.specs.declared.scalar.Scalar.TheVariants as scalar
use Rattle.imkl_population.specs.Population.{Population, class_of}

-- a whole number of 64 bits
abbrev pub is_integer : ℤ → Bool
is_integer n = int_le (negsuc (2 ^ 63 - 1)) n && int_le n (pos (2 ^ 63 - 1))

abbrev pub is_whole_number : Scalar → Bool
is_whole_number (scalar.Int n) = is_integer n
is_whole_number v = false

-- a value is a literal of an enumeration that has this number of literals
abbrev pub is_literal_of : ℕ → ℕ → Scalar → Bool
is_literal_of e literals (scalar.Literal d l) = d == e && nat_lt l literals
is_literal_of e literals v = false

-- a value is of an attribute's type
abbrev pub is_of_type : Model → ElementType → Scalar → Bool
is_of_type m element.Boolean (scalar.Bool b) = true
is_of_type m element.Integer v = is_whole_number v
is_of_type m element.String (scalar.Text t) = true
is_of_type m (element.Enumeration e) v = is_literal_of e (length (enumeration_at m e).literals) v
is_of_type m t v = false

-- a value is an object that is there, and whose class conforms to the class whose objects an end holds
abbrev pub is_target_of : Population → ElementType → Scalar → Bool
is_target_of p (element.Class c) (scalar.Object o) = nat_lt o (length p.objects) && conforms p.model (class_of p o) c
is_target_of p t v = false

abbrev pub same_scalar : Scalar → Scalar → Bool
same_scalar (scalar.Bool a) (scalar.Bool b) = if a then b else not b
same_scalar (scalar.Int a) (scalar.Int b) = int_eq a b
same_scalar (scalar.Text a) (scalar.Text b) = bytes_eq a b
same_scalar (scalar.Literal d a) (scalar.Literal e b) = d == e && a == b
same_scalar (scalar.Object a) (scalar.Object b) = a == b
same_scalar v w = false

abbrev pub is_value_among : List Scalar → Scalar → Bool
is_value_among vs w = is_among same_scalar vs w

-- some value stands twice
abbrev pub repeats_value : List Scalar → Bool
repeats_value vs = repeats same_scalar vs

-- more than an upper bound
abbrev pub is_over : Option ℕ → ℕ → Bool
is_over None n = false
is_over (Some upper) n = nat_lt upper n
