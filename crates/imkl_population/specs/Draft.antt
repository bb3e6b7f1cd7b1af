-- What a builder keeps of the population that it makes.
use Rattle.std.specs.Prelude.{◌≡◌, ℕ, ◌<◌, ◌≤◌, Bool, true, false, List, Option, length, bytes_eq, is_none, All}
use Rattle.std.specs.Map.{keys_of}
use Rattle.std.specs.List.{list_all}
use Rattle.imkl_model.specs.declared.feature.FeatureInfo.{FeatureInfo}
use Rattle.imkl_model.specs.ClassModel.{class_at, feature_at}
use Rattle.imkl_population.specs.declared.scalar.Scalar.{Scalar}
use Rattle.imkl_population.specs.declared.fault.PopulationFault.{PopulationFault}
use Rattle.imkl_population.specs.Population.{Population, object_at, class_of, object_number}
use Rattle.imkl_model.specs.Features.{is_attribute}
use Rattle.imkl_population.specs.declared.limits.TheConstants.{MAX_OBJECTS}
use Rattle.imkl_population.specs.Building.{is_id, value_fault, link_fault}
use Rattle.imkl_population.specs.Written.{IsMap}

-- what is wrong with what is written at a feature
abbrev pub entry_fault_by : Bool → Population → ℕ → ℕ → FeatureInfo → List Scalar → Option PopulationFault
entry_fault_by true p o f i vs = value_fault p o f i vs
entry_fault_by false p o f i vs = link_fault p o f i vs

abbrev pub is_sound : Population → ℕ → (ℕ × List Scalar) → Bool
is_sound p o e = is_none (entry_fault_by (is_attribute (feature_at p.model e.0).role) p o e.0 (feature_at p.model e.0) e.1)

pub record IsDraft (p : Population) (ids : List ℕ → Option ℕ) : Type 0 where
  pub found : (id : List ℕ) → ids id ≡ object_number p id
  pub limited : length p.objects ≤ MAX_OBJECTS
  pub classed : (o : ℕ) → o < length p.objects → class_of p o < length p.model.classes
  pub concrete : (o : ℕ) → o < length p.objects → (class_at p.model (class_of p o)).is_abstract ≡ false
  pub formed : (o : ℕ) → o < length p.objects → is_id (object_at p o).id ≡ true
  pub distinct : (n o : ℕ) → n < o → o < length p.objects → bytes_eq (object_at p n).id (object_at p o).id ≡ false
  pub mapped : (o : ℕ) → o < length p.objects → IsMap (object_at p o).written
  pub known : (o : ℕ) → o < length p.objects → All (λ f. f < length p.model.features) (keys_of (object_at p o).written)
  pub sound : (o : ℕ) → o < length p.objects → list_all (is_sound p o) (object_at p o).written ≡ true
