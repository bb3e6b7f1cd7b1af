-- What each call of a builder does: the population after it, or its fault. The tests stand in the order of the faults.
use Rattle.std.specs.Prelude.{◌≡◌, ℕ, ◌&&◌, ◌||◌, Bool, true, not, List, [], ◌∷◌, ◌++◌, Option, Some, None, Result, Ok, Err, length, map, nat_le, nat_lt, is_some, slice_set, if◌then◌else◌}
use Rattle.std.specs.List.{list_all}
use Rattle.std.specs.Option.{option_or}
use Rattle.std.specs.Ordering.{nat_cmp}
use Rattle.std.specs.BTreeMap.{insert_entry}
use Rattle.imkl_model.specs.declared.feature.FeatureInfo.{FeatureInfo}
use Rattle.imkl_model.specs.ClassModel.{class_at, feature_at, belongs}
use Rattle.imkl_population.specs.declared.scalar.Scalar.{Scalar}
use Rattle.imkl_population.specs.declared.scalar.Scalar.TheVariants as scalar
use Rattle.imkl_population.specs.declared.fault.PopulationFault.{PopulationFault}
use Rattle.imkl_population.specs.declared.fault.PopulationFault.TheVariants.{DuplicateId, AbstractClass, WrongFeature, WrongKind, TooFew, TooMany, WrongClass, DuplicateTarget, Derived, Limit, BadId, OutOfMemory}
use Rattle.imkl_population.specs.declared.object.Object.{Object}
use Rattle.imkl_population.specs.Population.{Population, object_at, class_of, object_number}
use Rattle.imkl_model.specs.Features.{is_attribute, is_opposite, is_unique}
use Rattle.imkl_population.specs.Values.{is_of_type, is_target_of, is_over, repeats_value}
use Rattle.imkl_population.specs.declared.limits.TheConstants.{MAX_ID_LENGTH, MAX_OBJECTS}

abbrev pub population_fault_number : PopulationFault → ℕ
population_fault_number DuplicateId = 1
population_fault_number AbstractClass = 2
population_fault_number WrongFeature = 3
population_fault_number WrongKind = 4
population_fault_number (TooFew o f) = 5
population_fault_number (TooMany o f) = 6
population_fault_number WrongClass = 7
population_fault_number DuplicateTarget = 8
population_fault_number Derived = 9
population_fault_number Limit = 10
population_fault_number BadId = 11
population_fault_number OutOfMemory = 12

-- A call answers what its definition gives, and leaves what that gives. Refused, it leaves the builder as it was.
abbrev pub BuilderAnswers : {X : Type 0} → Result X PopulationFault → Result Population PopulationFault → Population → Population → Type 0
BuilderAnswers (Ok x) given old new = given ≡ Ok new
BuilderAnswers (Err OutOfMemory) given old new = new ≡ old
BuilderAnswers (Err e) given old new = (given ≡ Err e) × (new ≡ old)

-- the class model stays
abbrev pub KeepsModel : Population → Population → Type 0
KeepsModel old new = new.model ≡ old.model

-- the class model and the number of objects stay
pub record KeepsObjects (old new : Population) : Type 0 where
  pub model : new.model ≡ old.model
  pub count : length new.objects ≡ length old.objects

-- a fault, where there is one
abbrev pub unless : {A : Type 0} → Option PopulationFault → A → Result A PopulationFault
unless None a = Ok a
unless (Some e) a = Err e

-- ---- objects

abbrev pub is_byte_between : ℕ → ℕ → ℕ → Bool
is_byte_between low high b = nat_le low b && nat_le b high

-- one of `A-Z a-z 0-9 . _ : -`
abbrev pub is_id_byte : ℕ → Bool
is_id_byte b = is_byte_between 65 90 b || is_byte_between 97 122 b || is_byte_between 48 57 b || is_byte_between 45 46 b || is_byte_between 95 95 b || is_byte_between 58 58 b

-- 1 to so many of these
abbrev pub is_id : List ℕ → Bool
is_id id = nat_lt 0 (length id) && nat_le (length id) MAX_ID_LENGTH && list_all is_id_byte id

abbrev pub with_object : Population → List ℕ → ℕ → Population
with_object p id c = record p { objects = p.objects ++ record { id = id; class = c; written = [] } ∷ [] }

-- what is wrong with one more object of an id and a class
abbrev pub object_fault : Population → List ℕ → ℕ → Option PopulationFault
object_fault p id c =
    if not (is_id id) then Some BadId
    else (if is_some (object_number p id) then Some DuplicateId
    else (if (class_at p.model c).is_abstract then Some AbstractClass
    else (if nat_le MAX_OBJECTS (length p.objects) then Some Limit else None)))

abbrev pub add_outcome : Population → List ℕ → ℕ → Result Population PopulationFault
add_outcome p id c = unless (object_fault p id c) (with_object p id c)

-- ---- values and links

-- a number of values against the bounds
abbrev pub bounds_fault : FeatureInfo → ℕ → ℕ → ℕ → Option PopulationFault
bounds_fault i o f n = if nat_lt n i.lower then Some (TooFew o f) else (if is_over i.upper n then Some (TooMany o f) else None)

-- a list against the bounds, and before that against holding a value twice, where it may not
abbrev pub list_fault : Bool → FeatureInfo → ℕ → ℕ → List Scalar → Option PopulationFault
list_fault unique i o f vs = if unique && repeats_value vs then Some DuplicateTarget else bounds_fault i o f (length vs)

-- what is wrong with the feature or the types of values at an attribute
abbrev pub attribute_fault : Population → ℕ → ℕ → FeatureInfo → List Scalar → Option PopulationFault
attribute_fault p o f i vs =
    if not (belongs p.model (class_of p o) f && is_attribute i.role) then Some WrongFeature
    else (if not (list_all (is_of_type p.model i.element) vs) then Some WrongKind else None)

-- what is wrong with values at an attribute
abbrev pub value_fault : Population → ℕ → ℕ → FeatureInfo → List Scalar → Option PopulationFault
value_fault p o f i vs = option_or (attribute_fault p o f i vs) (list_fault (is_unique i) i o f vs)

-- what is wrong with a feature that is linked, whatever the targets
abbrev pub source_fault : Population → ℕ → ℕ → FeatureInfo → Option PopulationFault
source_fault p o f i =
    if not (belongs p.model (class_of p o) f && not (is_attribute i.role)) then Some WrongFeature
    else (if is_opposite i.role then Some Derived else None)

-- what is wrong with targets at a source end
abbrev pub targets_fault : Population → ℕ → ℕ → FeatureInfo → List Scalar → Option PopulationFault
targets_fault p o f i vs = if not (list_all (is_target_of p i.element) vs) then Some WrongClass else list_fault true i o f vs

-- what is wrong with targets at an end
abbrev pub link_fault : Population → ℕ → ℕ → FeatureInfo → List Scalar → Option PopulationFault
link_fault p o f i vs = option_or (source_fault p o f i) (targets_fault p o f i vs)

abbrev pub with_written : Object → ℕ → List Scalar → Object
with_written object f vs = record object { written = insert_entry nat_cmp object.written f vs }

-- a value list or target list in the place of what stood there
abbrev pub with_values : Population → ℕ → ℕ → List Scalar → Population
with_values p o f vs = record p { objects = slice_set p.objects o (with_written (object_at p o) f vs) }

abbrev pub set_outcome : Population → ℕ → ℕ → List Scalar → Result Population PopulationFault
set_outcome p o f vs = unless (value_fault p o f (feature_at p.model f) vs) (with_values p o f vs)

abbrev pub as_objects : List ℕ → List Scalar
as_objects os = map scalar.Object os

abbrev pub link_outcome : Population → ℕ → ℕ → List ℕ → Result Population PopulationFault
link_outcome p o f ts = unless (link_fault p o f (feature_at p.model f) (as_objects ts)) (with_values p o f (as_objects ts))
