-- Class models: enumerations, classes with superclasses, features, associations.
use Rattle.std.specs.Prelude.{◌≡◌, ◌≢◌, ℕ, ◌==◌, ◌&&◌, ◌<◌, Bool, false, not, List, [], length, map, Option, None, position, slice_index_or, bytes_eq}
use Rattle.ocl_base.specs.Numbers.{least}
use Rattle.imkl_model.specs.declared.entry.Enumeration.{Enumeration}
use Rattle.imkl_model.specs.declared.entry.Class.{Class}
use Rattle.imkl_model.specs.declared.entry.ClassRename.{ClassRename}
use Rattle.imkl_model.specs.declared.entry.FeatureRename.{FeatureRename}
use Rattle.imkl_model.specs.declared.feature.FeatureInfo.{FeatureInfo}
use Rattle.imkl_model.specs.declared.feature.ElementType.TheVariants as element
use Rattle.ocl_base.specs.declared.collection_kind.CollectionKind.TheVariants as kind
use Rattle.imkl_model.specs.declared.feature.Role.TheVariants as role
use Rattle.imkl_model.specs.Chains as chains

-- The old names of classes and of features, in the file's order.
pub record Renames : Type 0 where
  pub classes : List ClassRename
  pub features : List FeatureRename

abbrev pub no_renames : Renames
no_renames = record { classes = []; features = [] }

-- What a class model is. Enumerations, classes, features and associations are numbered by their indices. Features stand
-- in the model's order: attributes class by class as written, then for each association its source end and its
-- opposite end.
pub record Model : Type 0 where
  pub name : List ℕ
  pub enumerations : List Enumeration
  pub classes : List Class
  pub features : List FeatureInfo
  pub associations : List (List ℕ)
  pub renames : Renames

abbrev pub no_enumeration : Enumeration
no_enumeration = record { name = []; literals = [] }

abbrev pub no_class : Class
no_class = record { name = []; is_abstract = false; supers = [] }

abbrev pub no_feature : FeatureInfo
no_feature = record {
  name = [];
  owner = 0;
  element = element.Boolean;
  lower = 0;
  upper = None;
  kind = kind.Set;
  role = role.Attribute;
}

abbrev pub enumeration_at : Model → ℕ → Enumeration
enumeration_at m e = slice_index_or m.enumerations e no_enumeration

abbrev pub class_at : Model → ℕ → Class
class_at m c = slice_index_or m.classes c no_class

abbrev pub feature_in : List FeatureInfo → ℕ → FeatureInfo
feature_in features f = slice_index_or features f no_feature

abbrev pub feature_at : Model → ℕ → FeatureInfo
feature_at m f = feature_in m.features f

abbrev pub names_of_classes : List Class → List (List ℕ)
names_of_classes classes = map (λ c. c.name) classes

abbrev pub class_names : Model → List (List ℕ)
class_names m = names_of_classes m.classes

abbrev pub names_of_enumerations : List Enumeration → List (List ℕ)
names_of_enumerations enumerations = map (λ e. e.name) enumerations

abbrev pub enumeration_names : Model → List (List ℕ)
enumeration_names m = names_of_enumerations m.enumerations

-- ---- superclasses

-- each class's direct superclasses
abbrev pub supers_in : List Class → List (List ℕ)
supers_in classes = map (λ c. c.supers) classes

abbrev pub supers : Model → List (List ℕ)
supers m = supers_in m.classes

-- c conforms to d: a chain of zero or more superclass steps leads from c to d
abbrev pub Conforms : Model → ℕ → ℕ → Type 0
Conforms m c d = chains.IsOrReaches (supers m) c d

-- the same as a test
abbrev pub conforms : Model → ℕ → ℕ → Bool
conforms m c d = chains.is_or_reaches (supers m) c d

-- ---- features of a class

-- a feature belongs to its owner and to each class that conforms to it
abbrev pub belongs : Model → ℕ → ℕ → Bool
belongs m c f = conforms m c (feature_at m f).owner

-- ---- numbers of names

abbrev pub class_number : Model → List ℕ → Option ℕ
class_number m name = position (bytes_eq name) (class_names m)

abbrev pub enumeration_number : Model → List ℕ → Option ℕ
enumeration_number m name = position (bytes_eq name) (enumeration_names m)

abbrev pub literal_number : Model → ℕ → List ℕ → Option ℕ
literal_number m e name = position (bytes_eq name) (enumeration_at m e).literals

abbrev pub is_named_in : List FeatureInfo → List ℕ → ℕ → Bool
is_named_in features name f = bytes_eq name (feature_in features f).name

abbrev pub is_named : Model → List ℕ → ℕ → Bool
is_named m name f = is_named_in m.features name f

-- the first feature of this name that belongs to the class
abbrev pub feature_number : Model → ℕ → List ℕ → Option ℕ
feature_number m c name = least (λ f. is_named m name f && belongs m c f) (length m.features)

-- a feature of this name that the class itself owns
abbrev pub is_own_in : List FeatureInfo → List ℕ → ℕ → ℕ → Bool
is_own_in features name c f = is_named_in features name f && (feature_in features f).owner == c

abbrev pub own_feature_number : List FeatureInfo → ℕ → List ℕ → Option ℕ
own_feature_number features c name = least (is_own_in features name c) (length features)

-- ---- clashes

-- two features of one name and different owners that both belong to a class
abbrev pub clashes : Model → ℕ → ℕ → ℕ → Bool
clashes m c f g = is_named m (feature_at m f).name g && not ((feature_at m f).owner == (feature_at m g).owner)
    && belongs m c f && belongs m c g

abbrev pub has_clash : Model → Bool
has_clash m =
    chains.any_below (λ c. chains.any_below (λ f. chains.any_below (λ g. clashes m c f g) (length m.features))
    (length m.features)) (length m.classes)

-- the same as a relation
pub record IsClash (m : Model) (c f g : ℕ) : Type 0 where
  pub class : c < length m.classes
  pub first : f < length m.features
  pub second : g < length m.features
  pub one_name : (feature_at m f).name ≡ (feature_at m g).name
  pub two_owners : (feature_at m f).owner ≢ (feature_at m g).owner
  pub first_belongs : Conforms m c (feature_at m f).owner
  pub second_belongs : Conforms m c (feature_at m g).owner
