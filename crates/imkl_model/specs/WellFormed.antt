-- What every class model keeps.
use Rattle.std.specs.Prelude.{◌≡◌, ℕ, suc, ◌+◌, ◌<◌, ◌≤◌, ◌++◌, true, false, List, length, nat_eq, All, Some, bytes_eq}
use Rattle.std.specs.List.{list_any}
use Rattle.ocl_base.specs.Lists.{repeats}
use Rattle.imkl_model.specs.declared.feature.ElementType.TheVariants as element
use Rattle.ocl_base.specs.declared.collection_kind.CollectionKind.TheVariants as kind
use Rattle.imkl_model.specs.declared.feature.Role.TheVariants as role
use Rattle.imkl_model.specs.declared.limits.TheConstants.{MAX_BOUND, MAX_FEATURES, MAX_RENAMES, MAX_TYPES}
use Rattle.imkl_model.specs.Words.{is_model_name, is_title, is_predefined}
use Rattle.imkl_model.specs.Chains.{is_cyclic}
use Rattle.imkl_model.specs.Features.{is_end}
use Rattle.ocl_base.specs.CollectionKinds.{is_unique_kind}
use Rattle.imkl_model.specs.ClassModel.{Model, supers, class_names, enumeration_names, feature_at, belongs}
use Rattle.imkl_model.specs.Renames.{old_class_names, class_rename_at, feature_rename_at, is_for}

-- a feature of the model
abbrev pub IsFeature : Model → ℕ → Type 0
IsFeature m f = f < length m.features

-- an entry for a feature that had another name
abbrev pub IsFeatureRename : Model → ℕ → Type 0
IsFeatureRename m i = i < length m.renames.features

abbrev pub IsModelName : List ℕ → Type 0
IsModelName name = is_model_name name ≡ true

-- classes and enumerations are the types of a model
abbrev pub type_names : Model → List (List ℕ)
type_names m = enumeration_names m ++ class_names m

-- two features are the source end and the opposite end of one association: each end's elements are objects of the other
-- end's owner, and the opposite end comes right after the source end
pub record ArePaired (m : Model) (source opposite : ℕ) : Type 0 where
  pub next : opposite ≡ suc source
  pub within : opposite < length m.features
  pub source_role : (feature_at m source).role ≡ role.SourceEnd opposite
  pub opposite_role : (feature_at m opposite).role ≡ role.OppositeEnd source
  pub source_element : (feature_at m source).element ≡ element.Class (feature_at m opposite).owner
  pub opposite_element : (feature_at m opposite).element ≡ element.Class (feature_at m source).owner

pub record IsClassModel (m : Model) : Type 0 where
  -- counts
  pub few_classes : length m.classes ≤ MAX_TYPES
  pub few_enumerations : length m.enumerations ≤ MAX_TYPES
  pub few_literals : All (λ e. length e.literals ≤ MAX_TYPES) m.enumerations
  pub few_features : length m.features ≤ MAX_FEATURES
  pub few_renames : length m.renames.classes + length m.renames.features ≤ MAX_RENAMES
  -- names are names
  pub title : is_title m.name ≡ true
  pub named_types : All IsModelName (type_names m)
  pub named_literals : All (λ e. All IsModelName e.literals) m.enumerations
  pub named_features : (f : ℕ) → IsFeature m f → IsModelName (feature_at m f).name
  pub named_associations : All IsModelName m.associations
  pub named_old_classes : All IsModelName (old_class_names m)
  pub named_old_features : (i : ℕ) → IsFeatureRename m i → IsModelName (feature_rename_at m i).old
  -- names differ
  pub types_differ : repeats bytes_eq (type_names m) ≡ false
  pub types_defined : list_any is_predefined (type_names m) ≡ false
  pub literals_differ : All (λ e. repeats bytes_eq e.literals ≡ false) m.enumerations
  pub associations_differ : repeats bytes_eq m.associations ≡ false
  -- superclasses
  pub known_supers : All (λ c. All (λ d. d < length m.classes) c.supers) m.classes
  pub supers_differ : All (λ c. repeats nat_eq c.supers ≡ false) m.classes
  pub acyclic : is_cyclic (supers m) ≡ false
  -- features
  pub known_owners : (f : ℕ) → IsFeature m f → (feature_at m f).owner < length m.classes
  pub known_classes : (f c : ℕ) → IsFeature m f → (feature_at m f).element ≡ element.Class c → c < length m.classes
  pub known_enumerations : (f e : ℕ) → IsFeature m f → (feature_at m f).element ≡ element.Enumeration e
      → e < length m.enumerations
  pub scalar_attributes : (f c : ℕ) → IsFeature m f → (feature_at m f).role ≡ role.Attribute
      → (feature_at m f).element ≡ element.Class c → ⊥
  pub lower_bounds : (f : ℕ) → IsFeature m f → (feature_at m f).lower ≤ MAX_BOUND
  pub upper_bounds : (f u : ℕ) → IsFeature m f → (feature_at m f).upper ≡ Some u
      → (0 < u) × ((feature_at m f).lower ≤ u) × (u ≤ MAX_BOUND)
  pub unique_ends : (f : ℕ) → IsFeature m f → is_end (feature_at m f).role ≡ true
      → is_unique_kind (feature_at m f).kind ≡ true
  pub single_values : (f : ℕ) → IsFeature m f → (feature_at m f).upper ≡ Some 1 → (feature_at m f).kind ≡ kind.Set
  pub sources : (f g : ℕ) → IsFeature m f → (feature_at m f).role ≡ role.SourceEnd g → ArePaired m f g
  pub opposites : (f g : ℕ) → IsFeature m f → (feature_at m f).role ≡ role.OppositeEnd g → ArePaired m g f
  -- no two features of a class have one name
  pub one_feature : (c f g : ℕ) → IsFeature m f → IsFeature m g → belongs m c f ≡ true → belongs m c g ≡ true
      → (feature_at m f).name ≡ (feature_at m g).name → f ≡ g
  -- old names: no class's is the name of a type or another class's old name, and of the features of a class, by present
  -- names and by old ones, no two have one name
  pub old_classes_differ : repeats bytes_eq (type_names m ++ old_class_names m) ≡ false
  pub old_classes_defined : list_any is_predefined (old_class_names m) ≡ false
  pub renamed_classes : (i : ℕ) → i < length m.renames.classes → (class_rename_at m i).class < length m.classes
  pub renamed_features : (i : ℕ) → IsFeatureRename m i → IsFeature m (feature_rename_at m i).feature
  pub renamed_owners : (i : ℕ) → IsFeatureRename m i
      → (feature_at m (feature_rename_at m i).feature).owner ≡ (feature_rename_at m i).class
  pub old_or_present : (c i f : ℕ) → IsFeatureRename m i → IsFeature m f → is_for m c i ≡ true → belongs m c f ≡ true
      → (feature_at m f).name ≡ (feature_rename_at m i).old → ⊥
  pub one_old_feature : (c i j : ℕ) → IsFeatureRename m i → IsFeatureRename m j → is_for m c i ≡ true
      → is_for m c j ≡ true → (feature_rename_at m i).old ≡ (feature_rename_at m j).old → i ≡ j
