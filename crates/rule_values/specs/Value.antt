-- Values, and the kinds that they are in.
use Rattle.std.specs.Prelude.{ℕ, ◌==◌, ◌&&◌, ◌||◌, not, Bool, true, false, List, Option, Some, None, length, nat_lt}
use Rattle.std.specs.List.{list_all}
use Rattle.ocl_base.specs.Lists.{repeats}
use Rattle.ocl_base.specs.declared.collection_kind.CollectionKind.{CollectionKind}
use Rattle.ocl_base.specs.CollectionKinds.{is_unique_kind}
use Rattle.imkl_model.specs.ClassModel.{enumeration_at, conforms}
use Rattle.imkl_population.specs.declared.scalar.Scalar.{Scalar}
use Rattle.imkl_population.specs.declared.scalar.Scalar.TheVariants as scalar
use Rattle.imkl_population.specs.Population.{Population, class_of}
use Rattle.imkl_population.specs.Values.{same_scalar, is_integer}
use Rattle.ocl_kinds.specs.declared.kind.ScalarKind.{ScalarKind}
use Rattle.ocl_kinds.specs.declared.kind.ScalarKind.TheVariants as element
use Rattle.ocl_kinds.specs.declared.kind.Kind.{Kind}
use Rattle.ocl_kinds.specs.declared.kind.Kind.TheVariants as kind
use Rattle.ocl_kinds.specs.Kinds.{is_same_collection}

-- an element of a collection: a single value, or null
abbrev pub Element : Type 0
Element = Option Scalar

-- invalid, null, a single value, or a collection
pub data Value : Type 0 where
  Invalid : Value
  Null : Value
  Single : Scalar → Value
  Collection : CollectionKind → List Element → Value

abbrev pub truth_value : Bool → Value
truth_value b = Single (scalar.Bool b)

abbrev pub object_value : ℕ → Value
object_value o = Single (scalar.Object o)

-- an element as a value of its own
abbrev pub element_value : Element → Value
element_value None = Null
element_value (Some v) = Single v

-- a value as an element; collections and invalid are none
abbrev pub as_element : Value → Option Element
as_element Null = Some None
as_element (Single v) = Some (Some v)
as_element v = None

-- ---- equal elements

abbrev pub same_element : Element → Element → Bool
same_element None None = true
same_element (Some v) (Some w) = same_scalar v w
same_element v w = false

-- ---- kinds

-- a literal is in its enumeration, an object in each class that its own conforms to, where they are there
abbrev pub is_scalar_in : Population → Scalar → ScalarKind → Bool
is_scalar_in p (scalar.Bool b) element.Boolean = true
is_scalar_in p (scalar.Int n) element.Integer = is_integer n
is_scalar_in p (scalar.Text t) element.String = true
is_scalar_in p (scalar.Literal d l) (element.Enumeration e) = d == e && nat_lt l (length (enumeration_at p.model e).literals)
is_scalar_in p (scalar.Object o) (element.Class c) = nat_lt o (length p.objects) && conforms p.model (class_of p o) c
is_scalar_in p (scalar.Object o) element.AnyObject = nat_lt o (length p.objects)
is_scalar_in p v k = false

-- null is an element of each kind
abbrev pub is_element_in : Population → ScalarKind → Element → Bool
is_element_in p k None = true
is_element_in p k (Some v) = is_scalar_in p v k

-- elements that a collection may have: none twice in one that is unique
abbrev pub are_elements : CollectionKind → List Element → Bool
are_elements c es = not (is_unique_kind c) || not (repeats same_element es)

-- the elements of a collection are all in a kind
abbrev pub is_collection_in : Population → CollectionKind → List Element → ScalarKind → Bool
is_collection_in p c es k = are_elements c es && list_all (is_element_in p k) es

-- invalid is in each kind, null in each kind of a single value
abbrev pub is_in : Population → Value → Kind → Bool
is_in p Invalid k = true
is_in p Null (kind.Scalar k) = true
is_in p (Single v) (kind.Scalar k) = is_scalar_in p v k
is_in p (Collection c es) (kind.Collection d k) = is_same_collection c d && is_collection_in p c es k
is_in p v k = false
