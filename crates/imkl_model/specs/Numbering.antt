-- From names to numbers.
use Rattle.std.specs.Prelude.{ℕ, List, map, Bool, true, false, Result, Ok, position, bytes_eq, if◌then◌else◌, codes}
use Rattle.imkl_model.specs.declared.fault.ModelFault.{ModelFault}
use Rattle.imkl_model.specs.declared.fault.ModelFault.TheVariants.{UnknownName}
use Rattle.imkl_model.specs.declared.entry.Enumeration.{Enumeration}
use Rattle.imkl_model.specs.declared.entry.Class.{Class}
use Rattle.imkl_model.specs.declared.entry.ClassRename.{ClassRename}
use Rattle.imkl_model.specs.declared.entry.FeatureRename.{FeatureRename}
use Rattle.imkl_model.specs.declared.feature.FeatureInfo.{FeatureInfo}
use Rattle.imkl_model.specs.declared.feature.ElementType.{ElementType}
use Rattle.imkl_model.specs.declared.feature.ElementType.TheVariants as element
use Rattle.ocl_base.specs.declared.collection_kind.CollectionKind.{CollectionKind}
use Rattle.ocl_base.specs.declared.collection_kind.CollectionKind.TheVariants as kind
use Rattle.imkl_model.specs.declared.feature.Role.{Role}
use Rattle.imkl_model.specs.declared.feature.Role.TheVariants as role
use Rattle.imkl_model.specs.declared.written.WrittenClass.{WrittenClass}
use Rattle.imkl_model.specs.declared.written.WrittenEnumeration.{WrittenEnumeration}
use Rattle.imkl_model.specs.declared.written.WrittenClassRename.{WrittenClassRename}
use Rattle.imkl_model.specs.declared.written.WrittenFeatureRename.{WrittenFeatureRename}
use Rattle.imkl_model.specs.declared.written.Written.{Written}
use Rattle.ocl_base.specs.Steps.{◌>>=◌, found, each}
use Rattle.imkl_model.specs.WrittenFeatures.{written_features}
use Rattle.imkl_model.specs.declared.written.WrittenFeature.{WrittenFeature}
use Rattle.imkl_model.specs.Checks.{written_association_names}
use Rattle.imkl_model.specs.declared.numbering.Scope.{Scope}
use Rattle.imkl_model.specs.Scopes.{scope_of}
use Rattle.imkl_model.specs.Features.{is_single}
use Rattle.imkl_model.specs.ClassModel.{Model, Renames, own_feature_number}

-- the number of a name, else UnknownName
abbrev pub number_in : List (List ℕ) → List ℕ → Result ℕ ModelFault
number_in names name = found (position (bytes_eq name) names) UnknownName

-- Boolean, Integer, String or an enumeration
unfoldable pub scalar_type : Scope → List ℕ → Result ElementType ModelFault
scalar_type s name =
    if bytes_eq name (codes "Boolean") then Ok element.Boolean
    else (if bytes_eq name (codes "Integer") then Ok element.Integer
    else (if bytes_eq name (codes "String") then Ok element.String
    else (do
      e ← number_in s.enumerations name
      Ok (element.Enumeration e))))

abbrev pub class_type : Scope → List ℕ → Result ElementType ModelFault
class_type s name = do
  c ← number_in s.classes name
  Ok (element.Class c)

-- an attribute's elements are of a scalar type, an end's elements are objects of a class
unfoldable pub element_type : Scope → Role → List ℕ → Result ElementType ModelFault
element_type s role.Attribute name = scalar_type s name
element_type s (role.SourceEnd f) name = class_type s name
element_type s (role.OppositeEnd f) name = class_type s name

abbrev pub kind_of : Bool → Bool → CollectionKind
kind_of true true = kind.OrderedSet
kind_of true false = kind.Sequence
kind_of false true = kind.Set
kind_of false false = kind.Bag

-- with upper bound 1 what is written of order and uniqueness isn't kept
abbrev pub collection_kind : WrittenFeature → CollectionKind
collection_kind d = if is_single d.upper then kind.Set else kind_of d.ordered d.unique

unfoldable pub feature_in_scope : Scope → WrittenFeature → Result FeatureInfo ModelFault
feature_in_scope s d = do
  owner ← number_in s.classes d.owner
  element ← element_type s d.role d.element
  Ok (record {
    name = d.name;
    owner = owner;
    element = element;
    lower = d.lower;
    upper = d.upper;
    kind = collection_kind d;
    role = d.role;
  })

unfoldable pub class_in_scope : Scope → WrittenClass → Result Class ModelFault
class_in_scope s c = do
  supers ← each (number_in s.classes) c.supers
  Ok (record { name = c.name; is_abstract = c.is_abstract; supers = supers })

abbrev pub enumeration_as_written : WrittenEnumeration → Enumeration
enumeration_as_written e = record { name = e.name; literals = e.literals }

unfoldable pub class_rename_in_scope : Scope → WrittenClassRename → Result ClassRename ModelFault
class_rename_in_scope s r = do
  class ← number_in s.classes r.new
  Ok (record { old = r.old; class = class })

-- the class itself owns the feature
unfoldable pub feature_rename_in_scope : Scope → List FeatureInfo → WrittenFeatureRename → Result FeatureRename ModelFault
feature_rename_in_scope s features r = do
  class ← number_in s.classes r.class
  feature ← found (own_feature_number features class r.new) UnknownName
  Ok (record { class = class; old = r.old; feature = feature })

-- the old names, of the classes of a scope and of these features
unfoldable pub renames_in_scope : Scope → List FeatureInfo → Written → Result Renames ModelFault
renames_in_scope s features w = do
  old_classes ← each (class_rename_in_scope s) w.class_renames
  old_features ← each (feature_rename_in_scope s features) w.feature_renames
  Ok (record { classes = old_classes; features = old_features })

-- the class model with numbers for names
unfoldable pub numbered_model : Written → Result Model ModelFault
numbered_model w = do
  classes ← each (class_in_scope (scope_of w)) w.classes
  features ← each (feature_in_scope (scope_of w)) (written_features w)
  renames ← renames_in_scope (scope_of w) features w
  Ok (record {
    name = w.name;
    enumerations = map enumeration_as_written w.enumerations;
    classes = classes;
    features = features;
    associations = written_association_names w;
    renames = renames;
  })
