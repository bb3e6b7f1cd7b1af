-- Why a value is null or invalid, where that begins: which feature is absent, which operation had no result and why. Nothing
-- is said where an operand is invalid already. Of an operation on collections that is false, which elements make it so. Of an
-- object that a feature has, its class.
use Rattle.std.specs.Prelude.{ℕ, pos, Bool, true, false, List, [], ◌∷◌, ◌++◌, codes, Some, None, if◌then◌else◌}
use Rattle.std.specs.Ordering.{int_eq}
use Rattle.std.specs.List.{list_any}
use Rattle.imkl_model.specs.ClassModel.{class_at, feature_at}
use Rattle.imkl_population.specs.declared.scalar.Scalar.TheVariants as scalar
use Rattle.imkl_population.specs.Population.{Population}
use Rattle.ocl_core.specs.declared.operator.PlainOperator.{PlainOperator}
use Rattle.ocl_core.specs.declared.operator.PlainOperator.TheVariants as plain
use Rattle.ocl_core.specs.declared.operator.ClassOperator.{ClassOperator}
use Rattle.ocl_core.specs.declared.operator.ClassOperator.TheVariants as of_class
use Rattle.ocl_core.specs.declared.operator.Operator.{Operator}
use Rattle.ocl_core.specs.declared.operator.Operator.TheVariants.{Plain, OfClass, OfElements, Equal}
use Rattle.rule_values.specs.Value.{Element, Value, Null, Single, Collection}
use Rattle.rule_values.specs.Operations.{is_false, is_null, is_invalid}
use Rattle.explain_why.specs.Values.{object_text, value_note}
use Rattle.explain_why.specs.Differences.{difference_text}

abbrev pub is_null_element : Element → Bool
is_null_element None = true
is_null_element (Some v) = false

-- a sum that is no number
abbrev pub sum_reason : Value → List ℕ
sum_reason (Collection c es) = if list_any is_null_element es then codes ": an element is null" else codes ": out of range"
sum_reason v = []

-- a quotient that is no number, by the divisor
abbrev pub divisor_reason : Value → List ℕ
divisor_reason (Single (scalar.Int n)) = if int_eq n (pos 0) then codes ": division by zero" else codes ": out of range"
divisor_reason w = []

abbrev pub quotient_reason : List Value → List ℕ
quotient_reason [] = []
quotient_reason (w ∷ ws) = divisor_reason w

abbrev pub plain_reason : PlainOperator → Value → List Value → List ℕ
plain_reason plain.Divide v ws = quotient_reason ws
plain_reason plain.Modulo v ws = quotient_reason ws
plain_reason plain.Substring v ws = codes ": there are no such characters"
plain_reason plain.Sum v ws = sum_reason v
plain_reason operator v ws = codes ": out of range"

module _ (p : Population) where
  -- an object that isn't of the class that it is taken for
  abbrev pub other_class_reason : ℕ → ℕ → List ℕ
  other_class_reason o c = codes ": " ++ (object_text p o ++ (codes " is no " ++ (class_at p.model c).name))

  abbrev pub cast_reason : ℕ → Value → List ℕ
  cast_reason c (Single (scalar.Object o)) = other_class_reason o c
  cast_reason c v = []

  abbrev pub class_reason : ClassOperator → ℕ → Value → List ℕ
  class_reason of_class.AsType c v = cast_reason c v
  class_reason of_class.IsKindOf c v = []
  class_reason of_class.IsTypeOf c v = []

  -- operands of which none is null or invalid
  abbrev pub own_reason : Operator → Value → List Value → List ℕ
  own_reason (Plain operator) v ws = plain_reason operator v ws
  own_reason (OfClass operator c) v ws = class_reason operator c v
  own_reason (OfElements operator k) v ws = []
  own_reason (Equal k) v ws = []

  abbrev pub invalid_reason : Operator → Value → List Value → List ℕ
  invalid_reason operator v ws =
      if list_any is_invalid (v ∷ ws) then [] else (if list_any is_null (v ∷ ws) then codes ": an operand is null" else own_reason operator v ws)

  -- an operation, by its operands and what it gave
  unfoldable pub operation_reason : Operator → Value → List Value → Value → List ℕ
  operation_reason operator v ws gave =
      if is_invalid gave then invalid_reason operator v ws else (if is_false gave then difference_text p operator v ws else [])

  -- an object with nothing at a feature
  abbrev pub absent_reason : ℕ → ℕ → List ℕ
  absent_reason o f = codes ": " ++ (object_text p o ++ (codes " has no " ++ (feature_at p.model f).name))

  -- a feature, by what it was read of and what it gave
  abbrev pub feature_reason : ℕ → Value → Value → List ℕ
  feature_reason f (Single (scalar.Object o)) gave = if is_null gave then absent_reason o f else value_note p gave
  feature_reason f Null gave = codes ": null has no features"
  feature_reason f v gave = []

-- an `if`, by its condition
abbrev pub choice_reason : Value → List ℕ
choice_reason Null = codes ": the condition is null"
choice_reason v = []
