-- The kinds of basic types, and of what operators give.
use Rattle.std.specs.Prelude.{ℕ}
use Rattle.ocl_base.specs.declared.collection_kind.CollectionKind.TheVariants as collection
use Rattle.ocl_kinds.specs.declared.kind.ScalarKind.{ScalarKind}
use Rattle.ocl_kinds.specs.declared.kind.ScalarKind.TheVariants as element
use Rattle.ocl_kinds.specs.declared.kind.Kind.{Kind}
use Rattle.ocl_kinds.specs.declared.kind.Kind.TheVariants.{Scalar, Collection}
use Rattle.ocl_core.specs.declared.operator.BasicType.{BasicType}
use Rattle.ocl_core.specs.declared.operator.BasicType.TheVariants as type
use Rattle.ocl_core.specs.declared.operator.ClassOperator.{ClassOperator}
use Rattle.ocl_core.specs.declared.operator.ClassOperator.TheVariants as class
use Rattle.ocl_core.specs.declared.operator.ElementOperator.{ElementOperator}
use Rattle.ocl_core.specs.declared.operator.ElementOperator.TheVariants as of

abbrev pub basic_kind : BasicType → ScalarKind
basic_kind type.Boolean = element.Boolean
basic_kind type.Integer = element.Integer
basic_kind type.String = element.String

-- the same of single values
abbrev pub basic : BasicType → Kind
basic t = Scalar (basic_kind t)

-- truth values
abbrev pub truth_kind : Kind
truth_kind = basic type.Boolean

-- what an operator that asks for a class gives
abbrev pub class_result : ClassOperator → ℕ → Kind
class_result class.IsKindOf c = truth_kind
class_result class.IsTypeOf c = truth_kind
class_result class.AsType c = Scalar (element.Class c)

-- what an operator on a collection with elements of this kind gives
abbrev pub element_result : ElementOperator → ScalarKind → Kind
element_result of.Includes e = truth_kind
element_result of.Occurrences e = basic type.Integer
element_result of.IncludesAll e = truth_kind
element_result of.ExcludesAll e = truth_kind
element_result of.AsSet e = Collection collection.Set e
