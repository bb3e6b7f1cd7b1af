-- The operations: which operator each names, what it asks of its source and its arguments, and what it gives.
use Rattle.std.specs.Prelude.{ℕ, Bool, true, false, ◌&&◌, List, [], ◌∷◌, Option, Some, None, codes, bytes_eq, if◌then◌else◌}
use Rattle.imkl_model.specs.ClassModel.{Model}
use Rattle.ocl_kinds.specs.declared.kind.ScalarKind.{ScalarKind}
use Rattle.ocl_kinds.specs.declared.kind.ScalarKind.TheVariants as element
use Rattle.ocl_kinds.specs.declared.kind.Kind.{Kind}
use Rattle.ocl_kinds.specs.declared.kind.Kind.TheVariants.{Scalar, Collection}
use Rattle.ocl_kinds.specs.Kinds.{scalar_fits, fits}
use Rattle.ocl_text.specs.declared.tree.BinaryOperator.{BinaryOperator}
use Rattle.ocl_text.specs.declared.tree.BinaryOperator.TheVariants as b
use Rattle.ocl_core.specs.declared.operator.PlainOperator.{PlainOperator}
use Rattle.ocl_core.specs.declared.operator.PlainOperator.TheVariants as plain
use Rattle.ocl_core.specs.declared.operator.ClassOperator.{ClassOperator}
use Rattle.ocl_core.specs.declared.operator.ClassOperator.TheVariants as class
use Rattle.ocl_core.specs.declared.operator.ElementOperator.{ElementOperator}
use Rattle.ocl_core.specs.declared.operator.ElementOperator.TheVariants as of
use Rattle.ocl_core.specs.declared.operator.BasicType.{BasicType}
use Rattle.ocl_core.specs.declared.operator.BasicType.TheVariants.{Boolean, Integer, String}
use Rattle.ocl_core.specs.OperatorKinds.{basic_kind, basic}
use Rattle.ocl_types.specs.declared.table.Source.{Source}
use Rattle.ocl_types.specs.declared.table.Source.TheVariants.{OfType, Single, AnyCollection, CollectionOf}
use Rattle.ocl_types.specs.declared.table.Binary.{Binary}
use Rattle.ocl_types.specs.declared.table.Binary.TheVariants.{Numbers, Truths, Equality}

-- ---- operations with a name

-- what an operation does: an operator on its source and arguments of these types, or one on the elements of its source
pub data Effect : Type 0 where
  Plainly : (operator : PlainOperator) (parameters : List BasicType) (result : BasicType) → Effect
  OnElements : (operator : ElementOperator) → Effect

-- an operation: its name, what its source must be, what it does, and whether its result is the negation of that
pub record OperationRow : Type 0 where
  pub name : List ℕ
  pub source : Source
  pub effect : Effect
  pub is_negated : Bool

abbrev row : List ℕ → Source → Effect → OperationRow
row name source effect = record { name = name; source = source; effect = effect; is_negated = false }

abbrev negated_row : List ℕ → Source → Effect → OperationRow
negated_row name source effect = record { name = name; source = source; effect = effect; is_negated = true }

abbrev pub operations : List OperationRow
operations =
    row (codes "div") (OfType Integer) (Plainly plain.Divide (Integer ∷ []) Integer)
    ∷ row (codes "mod") (OfType Integer) (Plainly plain.Modulo (Integer ∷ []) Integer)
    ∷ row (codes "min") (OfType Integer) (Plainly plain.Minimum (Integer ∷ []) Integer)
    ∷ row (codes "max") (OfType Integer) (Plainly plain.Maximum (Integer ∷ []) Integer)
    ∷ row (codes "abs") (OfType Integer) (Plainly plain.Absolute [] Integer)
    ∷ row (codes "size") (OfType String) (Plainly plain.CharacterCount [] Integer)
    ∷ row (codes "substring") (OfType String) (Plainly plain.Substring (Integer ∷ Integer ∷ []) String)
    ∷ row (codes "oclIsUndefined") Single (Plainly plain.IsUndefined [] Boolean)
    ∷ row (codes "oclIsInvalid") Single (Plainly plain.IsInvalid [] Boolean)
    ∷ row (codes "size") AnyCollection (Plainly plain.ElementCount [] Integer)
    ∷ row (codes "isEmpty") AnyCollection (Plainly plain.IsEmpty [] Boolean)
    ∷ negated_row (codes "notEmpty") AnyCollection (Plainly plain.IsEmpty [] Boolean)
    ∷ row (codes "includes") AnyCollection (OnElements of.Includes)
    ∷ negated_row (codes "excludes") AnyCollection (OnElements of.Includes)
    ∷ row (codes "count") AnyCollection (OnElements of.Occurrences)
    ∷ row (codes "includesAll") AnyCollection (OnElements of.IncludesAll)
    ∷ row (codes "excludesAll") AnyCollection (OnElements of.ExcludesAll)
    ∷ row (codes "sum") (CollectionOf Integer) (Plainly plain.Sum [] Integer)
    ∷ row (codes "asSet") AnyCollection (OnElements of.AsSet)
    ∷ []

-- the three operations whose argument is a class's name
abbrev pub class_operator : List ℕ → Option ClassOperator
class_operator name =
    if bytes_eq name (codes "oclIsKindOf") then Some class.IsKindOf
    else (if bytes_eq name (codes "oclIsTypeOf") then Some class.IsTypeOf
    else (if bytes_eq name (codes "oclAsType") then Some class.AsType else None))

-- whether a source of this kind is what an operation asks; null alone is no number and no text here
abbrev pub is_source : Model → Source → Kind → Bool
is_source m (OfType t) (Scalar element.Void) = false
is_source m (OfType t) (Scalar k) = scalar_fits m k (basic_kind t)
is_source m (OfType t) (Collection c k) = false
is_source m Single (Scalar k) = true
is_source m Single (Collection c k) = false
is_source m AnyCollection (Scalar k) = false
is_source m AnyCollection (Collection c k) = true
is_source m (CollectionOf t) (Scalar k) = false
is_source m (CollectionOf t) (Collection c k) = scalar_fits m k (basic_kind t)

abbrev pub is_row_for : Model → List ℕ → Kind → OperationRow → Bool
is_row_for m name kind row = bytes_eq row.name name && is_source m row.source kind

-- the first row of this name for such a source
abbrev pub row_for : Model → List ℕ → Kind → List OperationRow → Option OperationRow
row_for m name kind [] = None
row_for m name kind (row ∷ rows) = if is_row_for m name kind row then Some row else row_for m name kind rows

-- how many arguments an operation takes
abbrev pub element_parameters : ElementOperator → ℕ
element_parameters of.Includes = 1
element_parameters of.Occurrences = 1
element_parameters of.IncludesAll = 1
element_parameters of.ExcludesAll = 1
element_parameters of.AsSet = 0

-- as many arguments as types, each of its own
abbrev pub accepts : Model → List BasicType → List Kind → Bool
accepts m [] [] = true
accepts m [] (k ∷ ks) = false
accepts m (t ∷ ts) [] = false
accepts m (t ∷ ts) (k ∷ ks) = fits m k (basic t) && accepts m ts ks

-- ---- operators between two operands

abbrev pub binary : BinaryOperator → Binary
binary b.Multiply = Numbers plain.Multiply Integer
binary b.Divide = Numbers plain.Divide Integer
binary b.Modulo = Numbers plain.Modulo Integer
binary b.Add = Numbers plain.Add Integer
binary b.Subtract = Numbers plain.Subtract Integer
binary b.Less = Numbers plain.Less Boolean
binary b.LessEqual = Numbers plain.LessEqual Boolean
binary b.Greater = Numbers plain.Greater Boolean
binary b.GreaterEqual = Numbers plain.GreaterEqual Boolean
binary b.Equal = Equality false
binary b.NotEqual = Equality true
binary b.And = Truths plain.And
binary b.Or = Truths plain.Or
binary b.Xor = Truths plain.Xor
binary b.Implies = Truths plain.Implies
