-- The features that need a value, listed by the classes that own them.
use Rattle.std.specs.Prelude.{◌≡◌, ℕ, zero, suc, ◌<◌, ◌==◌, ◌&&◌, ◌++◌, ◌⊎◌, Bool, List, [], Option, Some, length, nat_lt, slice_index_or, if◌then◌else◌}
use Rattle.imkl_model.specs.declared.feature.FeatureInfo.{FeatureInfo}
use Rattle.imkl_model.specs.ClassModel.{Model, feature_at, conforms}
use Rattle.imkl_population.specs.declared.required.Side.{Side}
use Rattle.ocl_base.specs.Numbers.{places}
use Rattle.imkl_population.specs.Required.{Requirements, is_on, required}

-- what was listed of classes is what they require
abbrev pub AreRequired : Requirements → (ℕ → Option (List ℕ)) → Type 0
AreRequired r lists = (c : ℕ) (fs : List ℕ) → lists c ≡ Some fs → fs ≡ required r c

-- a feature on one side that has a lower bound above zero
abbrev pub is_needed : Side → FeatureInfo → Bool
is_needed side i = is_on side i.role && nat_lt 0 i.lower

-- a class itself owns such a feature
abbrev pub is_owned : Requirements → ℕ → ℕ → Bool
is_owned r c f = is_needed r.side (feature_at r.model f) && (feature_at r.model f).owner == c

-- for each class those of the features below n that it owns
pub record AreListedByOwner (r : Requirements) (n : ℕ) (lists : List (List ℕ)) : Type 0 where
  pub count : length lists ≡ length r.model.classes
  pub parts : (c : ℕ) → c < length r.model.classes → slice_index_or lists c [] ≡ places (is_owned r c) n

-- either no list is there yet, or each class has the list of all that it owns
abbrev pub AreListedIfAny : Requirements → List (List ℕ) → Type 0
AreListedIfAny r lists = (lists ≡ []) ⊎ AreListedByOwner r (length r.model.features) lists

-- from the lists of the owners below n those of the owners that a class conforms to, one after the other
abbrev pub inherited : Model → ℕ → List (List ℕ) → ℕ → List ℕ
inherited m c lists zero = []
inherited m c lists (suc n) = inherited m c lists n ++ (if conforms m c n then slice_index_or lists n [] else [])
