-- Kinds: which fits which, the kind of a feature, the wider of two kinds, and the kind that two have in common.
use Rattle.std.specs.Prelude.{◌<◌, ◌==◌, ◌&&◌, Bool, true, false, length, Option, Some, None, if◌then◌else◌}
use Rattle.ocl_base.specs.declared.collection_kind.CollectionKind.{CollectionKind}
use Rattle.ocl_base.specs.declared.collection_kind.CollectionKind.TheVariants as collection
use Rattle.imkl_model.specs.declared.feature.ElementType.{ElementType}
use Rattle.imkl_model.specs.declared.feature.ElementType.TheVariants as type
use Rattle.imkl_model.specs.declared.feature.FeatureInfo.{FeatureInfo}
use Rattle.imkl_model.specs.ClassModel.{Model, conforms}
use Rattle.imkl_model.specs.Features.{is_single}
use Rattle.ocl_kinds.specs.declared.kind.ScalarKind.{ScalarKind}
use Rattle.ocl_kinds.specs.declared.kind.ScalarKind.TheVariants.{Void, Boolean, Integer, String, Enumeration, Class, AnyObject}
use Rattle.ocl_kinds.specs.declared.kind.Kind.{Kind}
use Rattle.ocl_kinds.specs.declared.kind.Kind.TheVariants.{Scalar, Collection}

-- ---- kinds of a class model: what they name is there

abbrev pub IsScalarKindOf : Model → ScalarKind → Type 0
IsScalarKindOf m (Enumeration e) = e < length m.enumerations
IsScalarKindOf m (Class c) = c < length m.classes
IsScalarKindOf m k = Unit {0}

abbrev pub IsKindOf : Model → Kind → Type 0
IsKindOf m (Scalar k) = IsScalarKindOf m k
IsKindOf m (Collection c k) = IsScalarKindOf m k

-- ---- which kind fits another

-- a kind fits itself, Void each, a class each that it conforms to, and each class any object
abbrev pub scalar_fits : Model → ScalarKind → ScalarKind → Bool
scalar_fits m Void k = true
scalar_fits m Boolean Boolean = true
scalar_fits m Integer Integer = true
scalar_fits m String String = true
scalar_fits m (Enumeration d) (Enumeration e) = d == e
scalar_fits m (Class c) (Class d) = conforms m c d
scalar_fits m (Class c) AnyObject = true
scalar_fits m AnyObject AnyObject = true
scalar_fits m j k = false

abbrev pub is_same_collection : CollectionKind → CollectionKind → Bool
is_same_collection collection.Set collection.Set = true
is_same_collection collection.OrderedSet collection.OrderedSet = true
is_same_collection collection.Bag collection.Bag = true
is_same_collection collection.Sequence collection.Sequence = true
is_same_collection c d = false

-- a collection fits one of the same collection kind whose elements' kind its own fits
abbrev pub fits : Model → Kind → Kind → Bool
fits m (Scalar j) (Scalar k) = scalar_fits m j k
fits m (Collection c j) (Collection d k) = is_same_collection c d && scalar_fits m j k
fits m j k = false

-- ---- features

abbrev pub element_kind : ElementType → ScalarKind
element_kind type.Boolean = Boolean
element_kind type.Integer = Integer
element_kind type.String = String
element_kind (type.Enumeration e) = Enumeration e
element_kind (type.Class c) = Class c

-- a feature with upper bound 1 gives the value itself, each other a collection
abbrev pub feature_kind : FeatureInfo → Kind
feature_kind f = if is_single f.upper then Scalar (element_kind f.element) else Collection f.kind (element_kind f.element)

-- ---- collections

-- the kind of a collection's elements, or of a single value
abbrev pub elements_kind : Kind → ScalarKind
elements_kind (Scalar k) = k
elements_kind (Collection c k) = k

-- what is collected from a unique unordered or ordered collection may repeat; order stays
abbrev pub collected_kind : CollectionKind → CollectionKind
collected_kind collection.Set = collection.Bag
collected_kind collection.OrderedSet = collection.Sequence
collected_kind collection.Bag = collection.Bag
collected_kind collection.Sequence = collection.Sequence

-- ---- two kinds

-- the wider of two kinds: the one that the other fits
abbrev pub wider_kind : Model → Kind → Kind → Option Kind
wider_kind m j k = if fits m j k then Some k else (if fits m k j then Some j else None)

-- objects are compared whatever their classes
abbrev pub comparable : ScalarKind → ScalarKind
comparable (Class c) = AnyObject
comparable k = k

abbrev pub common_comparable : ScalarKind → ScalarKind → Option ScalarKind
common_comparable Void k = Some k
common_comparable k Void = Some k
common_comparable Boolean Boolean = Some Boolean
common_comparable Integer Integer = Some Integer
common_comparable String String = Some String
common_comparable (Enumeration d) (Enumeration e) = if d == e then Some (Enumeration d) else None
common_comparable AnyObject AnyObject = Some AnyObject
common_comparable j k = None

-- The kind as which values of two kinds are compared: the same Boolean, Integer, String or enumeration, any object for two
-- classes, and with Void the other's.
abbrev pub common_kind : ScalarKind → ScalarKind → Option ScalarKind
common_kind j k = common_comparable (comparable j) (comparable k)
