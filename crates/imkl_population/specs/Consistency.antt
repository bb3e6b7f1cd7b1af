-- What every finished population keeps.
use Rattle.std.specs.Prelude.{◌≡◌, ℕ, ◌<◌, ◌≤◌, true, false, None, length, bytes_eq}
use Rattle.std.specs.List.{list_all}
use Rattle.imkl_model.specs.ClassModel.{class_at, feature_at, belongs}
use Rattle.imkl_population.specs.Population.{Population, object_at, class_of, values_of}
use Rattle.imkl_model.specs.Features.{is_attribute, is_opposite, is_unique}
use Rattle.imkl_population.specs.Values.{is_of_type, is_target_of, repeats_value}
use Rattle.imkl_population.specs.Written.{is_set, IsMap}
use Rattle.imkl_population.specs.declared.limits.TheConstants.{MAX_OBJECTS}
use Rattle.imkl_population.specs.Building.{is_id, bounds_fault}

pub record IsConsistent (p : Population) : Type 0 where
  -- there are at most 1,000,000 objects
  pub limited : length p.objects ≤ MAX_OBJECTS
  -- each object is of a class of the model, and none of an abstract one
  pub classed : (o : ℕ) → o < length p.objects → class_of p o < length p.model.classes
  pub concrete : (o : ℕ) → o < length p.objects → (class_at p.model (class_of p o)).is_abstract ≡ false
  -- ids have their form, and differ
  pub formed : (o : ℕ) → o < length p.objects → is_id (object_at p o).id ≡ true
  pub distinct : (n o : ℕ) → n < o → o < length p.objects → bytes_eq (object_at p n).id (object_at p o).id ≡ false
  -- what is written on an object is a finite map, from features of the model that belong to its class and are no
  -- opposite ends
  pub mapped : (o : ℕ) → o < length p.objects → IsMap (object_at p o).written
  pub known : (o f : ℕ) → o < length p.objects → is_set (object_at p o).written f ≡ true → f < length p.model.features
  pub owned : (o f : ℕ) → o < length p.objects → is_set (object_at p o).written f ≡ true → belongs p.model (class_of p o) f ≡ true
  pub underived : (o f : ℕ) → o < length p.objects → is_set (object_at p o).written f ≡ true → is_opposite (feature_at p.model f).role ≡ false
  -- each value of an attribute is of its type
  pub typed : (o f : ℕ) → o < length p.objects → is_attribute (feature_at p.model f).role ≡ true
      → list_all (is_of_type p.model (feature_at p.model f).element) (values_of p o f) ≡ true
  -- each value of an end is an object whose class conforms to the end's class
  pub joined : (o f : ℕ) → o < length p.objects → is_attribute (feature_at p.model f).role ≡ false
      → list_all (is_target_of p (feature_at p.model f).element) (values_of p o f) ≡ true
  -- a unique feature holds nothing twice
  pub apart : (o f : ℕ) → o < length p.objects → is_unique (feature_at p.model f) ≡ true → repeats_value (values_of p o f) ≡ false
  -- the length of each feature lies within its bounds
  pub bounded : (o f : ℕ) → o < length p.objects → f < length p.model.features → belongs p.model (class_of p o) f ≡ true
      → bounds_fault (feature_at p.model f) o f (length (values_of p o f)) ≡ None
