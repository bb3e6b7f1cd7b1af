-- Clashes, looked for among the features of one name.
use Rattle.std.specs.Prelude.{◌≡◌, ◌⊎◌, IfSome, true, ℕ, ◌<◌, ◌&&◌, ◌==◌, Bool, false, not, List, [], ◌∷◌, length, find, Option, Some, None}
use Rattle.std.specs.List.{list_any}
use Rattle.imkl_model.specs.declared.entry.Class.{Class}
use Rattle.imkl_model.specs.declared.feature.FeatureInfo.{FeatureInfo}
use Rattle.imkl_model.specs.ClassModel.{Model, Renames, no_renames, supers, feature_at, feature_in, belongs, is_named}
use Rattle.imkl_model.specs.Chains.{any_below, reaches}
use Rattle.imkl_model.specs.Held.{Group, own_in}
use Rattle.ocl_base.specs.Numbers.{places}

-- classes and features alone
abbrev pub model_with : List Class → List FeatureInfo → Model
model_with classes features = record {
  name = [];
  enumerations = [];
  classes = classes;
  features = features;
  associations = [];
  renames = no_renames;
}

-- with old names
abbrev pub model_renaming : List Class → List FeatureInfo → Renames → Model
model_renaming classes features renames = record (model_with classes features) { renames = renames }

-- the features with the name of feature f
abbrev pub group : Model → ℕ → List ℕ
group m f = places (is_named m (feature_at m f).name) (length m.features)

-- the list begins with f
abbrev pub begins_with : List ℕ → ℕ → Bool
begins_with [] f = false
begins_with (g ∷ gs) f = g == f

-- a feature that belongs to the class and has another owner
abbrev pub has_other_owner : Model → ℕ → ℕ → ℕ → Bool
has_other_owner m c owner g = belongs m c g && not (owner == (feature_at m g).owner)

abbrev pub meets_after : Model → ℕ → List ℕ → Option ℕ → Bool
meets_after m c numbers None = false
meets_after m c numbers (Some f) = list_any (has_other_owner m c (feature_at m f).owner) numbers

-- two of these features have different owners and belong to the class
abbrev pub meets : Model → ℕ → List ℕ → Bool
meets m c numbers = meets_after m c numbers (find (belongs m c) numbers)

-- the feature is the first of its name, and two features of that name and of different owners belong to one class
abbrev pub group_meets : Model → ℕ → Bool
group_meets m f = begins_with (group m f) f && any_below (λ c. meets m c (group m f)) (length m.classes)

-- the features of this name
abbrev pub features_named : Model → List ℕ → List ℕ
features_named m name = places (is_named m name) (length m.features)

-- a class has features of this name by both models
abbrev pub is_shared : Model → Model → List ℕ → Bool
is_shared a m name =
    any_below (λ c. list_any (belongs a c) (features_named a name) && list_any (belongs m c) (features_named m name)) (length m.classes)

-- the feature is the first of its name by the one model, and a class has features of that name by both
abbrev pub shares : Model → Model → ℕ → Bool
shares a m f = begins_with (group a f) f && is_shared a m (feature_at a f).name

-- each feature's owner is a class
abbrev pub AreOwned : List Class → List FeatureInfo → Type 0
AreOwned classes features = (f : ℕ) → f < length features → (feature_in features f).owner < length classes

-- each feature's owner is a class, and no class has two features of one name
pub record AreDistinct (classes : List Class) (features : List FeatureInfo) : Type 0 where
  pub owners : AreOwned classes features
  pub one_feature : (c f g : ℕ) → f < length features → g < length features → belongs (model_with classes features) c f ≡ true
      → belongs (model_with classes features) c g ≡ true → (feature_in features f).name ≡ (feature_in features g).name → f ≡ g

-- two features of one name and one owner
abbrev pub AreOfOneOwner : List FeatureInfo → ℕ → ℕ → Type 0
AreOfOneOwner features f g =
    (g < f) × (f < length features) × ((feature_in features f).name ≡ (feature_in features g).name)
    × ((feature_in features f).owner ≡ (feature_in features g).owner)

-- what a look-up among the features of one name answers for a class that has none of its own: the first that belongs, or
-- that of some class above, and none only where no class above has one
abbrev pub IsInherited : Model → ℕ → Group → Option ℕ → Type 0
IsInherited m c g o =
    (o ≡ find (belongs m c) g.numbers)
    ⊎ (IfSome o (λ f. (d : ℕ) × (reaches (supers m) c d ≡ true) × (own_in g d ≡ Some f))
    × (o ≡ None → (d : ℕ) → d < length m.classes → reaches (supers m) c d ≡ true → own_in g d ≡ None))
