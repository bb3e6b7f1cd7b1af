-- Laws of class models.
use Rattle.std.specs.Prelude.{◌≡◌, ◌≢◌, ℕ, ◌+◌, ◌<◌, ◌≤◌, ◌↔◌, true, false, [], List, length, slice_index_or, Some, IfSome}
use Rattle.imkl_model.specs.declared.feature.ElementType.{ElementType}
use Rattle.imkl_model.specs.declared.feature.ElementType.TheVariants as element
use Rattle.ocl_base.specs.declared.collection_kind.CollectionKind.TheVariants as kind
use Rattle.imkl_model.specs.declared.feature.FeatureInfo.{FeatureInfo}
use Rattle.imkl_model.specs.declared.feature.Role.TheVariants as role
use Rattle.imkl_model.specs.Features.{is_attribute, is_end, is_single}
use Rattle.ocl_base.specs.CollectionKinds.{is_unique_kind}
use Rattle.imkl_model.specs.declared.limits.TheConstants.{MAX_BOUND, MAX_FEATURES, MAX_RENAMES, MAX_TYPES}
use Rattle.imkl_model.specs.Words.{is_title, is_predefined}
use Rattle.imkl_model.specs.ClassModel.{Model, class_at, enumeration_at, feature_at, conforms, belongs, class_number, enumeration_number, literal_number, feature_number}
use Rattle.imkl_model.specs.Renames.{renamed_class, renamed_feature, feature_by_names, linked_class, linked_feature, old_class_names, feature_rename_at}
use Rattle.imkl_model.specs.WellFormed.{IsModelName, IsFeature, IsFeatureRename, ArePaired}

-- ---- conformance, in every model

abbrev pub ConformsToItself : Model → Type 0
ConformsToItself m = (c : ℕ) → conforms m c c ≡ true

abbrev pub ConformsAlong : Model → Type 0
ConformsAlong m = (c d e : ℕ) → conforms m c d ≡ true → conforms m d e ≡ true → conforms m c e ≡ true

-- a feature of a class belongs to each class that conforms to it
abbrev pub Inherits : Model → Type 0
Inherits m = (c d f : ℕ) → conforms m c d ≡ true → belongs m d f ≡ true → belongs m c f ≡ true

-- ---- conformance in a class model

-- no two classes conform to each other
abbrev pub ConformsOneWay : Model → Type 0
ConformsOneWay m = (c d : ℕ) → conforms m c d ≡ true → conforms m d c ≡ true → c ≡ d

-- what a class conforms to is a class
abbrev pub ConformsWithin : Model → Type 0
ConformsWithin m = (c d : ℕ) → c < length m.classes → conforms m c d ≡ true → d < length m.classes

-- ---- names lead to numbers and back

abbrev pub ClassesHaveNames : Model → Type 0
ClassesHaveNames m =
    (name : List ℕ) (c : ℕ) → (class_number m name ≡ Some c) ↔ ((c < length m.classes) × ((class_at m c).name ≡ name))

abbrev pub EnumerationsHaveNames : Model → Type 0
EnumerationsHaveNames m =
    (name : List ℕ) (e : ℕ)
    → (enumeration_number m name ≡ Some e) ↔ ((e < length m.enumerations) × ((enumeration_at m e).name ≡ name))

abbrev pub literals_at : Model → ℕ → List (List ℕ)
literals_at m e = (enumeration_at m e).literals

abbrev pub LiteralsHaveNames : Model → Type 0
LiteralsHaveNames m =
    (e : ℕ) → e < length m.enumerations → (name : List ℕ) (l : ℕ)
    → (literal_number m e name ≡ Some l)
    ↔ ((l < length (literals_at m e)) × (slice_index_or (literals_at m e) l [] ≡ name))

abbrev pub FeaturesHaveNames : Model → Type 0
FeaturesHaveNames m =
    (name : List ℕ) (c f : ℕ)
    → (feature_number m c name ≡ Some f) ↔ (IsFeature m f × (belongs m c f ≡ true) × ((feature_at m f).name ≡ name))

-- ---- old names

-- what a name of a class names, old or present, is there
abbrev pub LinkedClassesAreThere : Model → Type 0
LinkedClassesAreThere m = (name : List ℕ) (c : ℕ) → linked_class m name ≡ Some c → c < length m.classes

-- what a class's name and a feature's name name is a feature that belongs to the class
abbrev pub LinkedFeaturesBelong : Model → Type 0
LinkedFeaturesBelong m =
    (class name : List ℕ) (f : ℕ) → linked_feature m class name ≡ Some f
    → (c : ℕ) × (linked_class m class ≡ Some c) × IsFeature m f × (belongs m c f ≡ true)

-- a present name stays as it is, and names what it names
abbrev pub PresentClassesStay : Model → Type 0
PresentClassesStay m =
    (name : List ℕ) (c : ℕ) → class_number m name ≡ Some c
    → (renamed_class m name ≡ name) × (linked_class m name ≡ Some c)

abbrev pub PresentFeaturesStay : Model → Type 0
PresentFeaturesStay m =
    (class name : List ℕ) (f : ℕ) → feature_by_names m class name ≡ Some f
    → (renamed_feature m class name ≡ name) × (linked_feature m class name ≡ Some f)

-- every name stays as it is
abbrev pub NamesStay : Model → Type 0
NamesStay m =
    ((name : List ℕ) → renamed_class m name ≡ name)
    × ((class name : List ℕ) → renamed_feature m class name ≡ name)

-- ---- names differ

-- no name is that of a class and of an enumeration
abbrev pub TypesDiffer : Model → Type 0
TypesDiffer m =
    (c e : ℕ) → c < length m.classes → e < length m.enumerations → (class_at m c).name ≢ (enumeration_at m e).name

-- no class and no enumeration has the name of a predefined type
abbrev pub TypesAreDefined : Model → Type 0
TypesAreDefined m =
    ((c : ℕ) → c < length m.classes → is_predefined (class_at m c).name ≡ false)
    × ((e : ℕ) → e < length m.enumerations → is_predefined (enumeration_at m e).name ≡ false)

-- each element of a list stands in it once
abbrev pub StandOnce : {X : Type 0} → X → List X → Type 0
StandOnce none xs =
    (i j : ℕ) → i < length xs → j < length xs → slice_index_or xs i none ≡ slice_index_or xs j none → i ≡ j

abbrev pub AssociationsDiffer : Model → Type 0
AssociationsDiffer m = StandOnce [] m.associations

-- the direct superclasses of a class
abbrev pub SupersDiffer : Model → Type 0
SupersDiffer m = (c : ℕ) → c < length m.classes → StandOnce 0 (class_at m c).supers

-- ---- names are names

abbrev pub AreNames : List (List ℕ) → Type 0
AreNames xs = (i : ℕ) → i < length xs → IsModelName (slice_index_or xs i [])

pub record HasNames (m : Model) : Type 0 where
  pub title : is_title m.name ≡ true
  pub classes : (c : ℕ) → c < length m.classes → IsModelName (class_at m c).name
  pub enumerations : (e : ℕ) → e < length m.enumerations → IsModelName (enumeration_at m e).name
  pub literals : (e : ℕ) → e < length m.enumerations → AreNames (literals_at m e)
  pub features : (f : ℕ) → IsFeature m f → IsModelName (feature_at m f).name
  pub associations : AreNames m.associations
  pub old_classes : AreNames (old_class_names m)
  pub old_features : (i : ℕ) → IsFeatureRename m i → IsModelName (feature_rename_at m i).old

-- ---- counts

pub record IsWithinLimits (m : Model) : Type 0 where
  pub classes : length m.classes ≤ MAX_TYPES
  pub enumerations : length m.enumerations ≤ MAX_TYPES
  pub literals : (e : ℕ) → e < length m.enumerations → length (literals_at m e) ≤ MAX_TYPES
  pub features : length m.features ≤ MAX_FEATURES
  pub renames : length m.renames.classes + length m.renames.features ≤ MAX_RENAMES

-- ---- features

-- what an element type names is there
abbrev pub IsElementOf : Model → ElementType → Type 0
IsElementOf m (element.Enumeration e) = e < length m.enumerations
IsElementOf m (element.Class c) = c < length m.classes
IsElementOf m t = Unit {0}

abbrev pub IsScalar : ElementType → Type 0
IsScalar (element.Class c) = ⊥
IsScalar t = Unit {0}

pub record IsSound (m : Model) (f : FeatureInfo) : Type 0 where
  pub owner : f.owner < length m.classes
  pub element : IsElementOf m f.element
  pub scalar : is_attribute f.role ≡ true → IsScalar f.element
  pub lower : f.lower ≤ MAX_BOUND
  pub upper : IfSome f.upper (λ u. (0 < u) × (f.lower ≤ u) × (u ≤ MAX_BOUND))
  pub unique : is_end f.role ≡ true → is_unique_kind f.kind ≡ true
  pub single : is_single f.upper ≡ true → f.kind ≡ kind.Set

abbrev pub FeaturesAreSound : Model → Type 0
FeaturesAreSound m = (f : ℕ) → IsFeature m f → IsSound m (feature_at m f)

abbrev pub EndsArePaired : Model → Type 0
EndsArePaired m =
    ((f g : ℕ) → IsFeature m f → (feature_at m f).role ≡ role.SourceEnd g → ArePaired m f g)
    × ((f g : ℕ) → IsFeature m f → (feature_at m f).role ≡ role.OppositeEnd g → ArePaired m g f)
