-- What is looked for when a population is finished: features that were never set, then opposite ends.
use Rattle.std.specs.Prelude.{◌≡◌, ℕ, ◌&&◌, not, Option, Some, None, Result, Ok, Err, length, nat_lt, if◌then◌else◌}
use Rattle.std.specs.Option.{option_or}
use Rattle.imkl_model.specs.ClassModel.{feature_at, belongs}
use Rattle.imkl_population.specs.declared.fault.PopulationFault.{PopulationFault}
use Rattle.imkl_population.specs.declared.fault.PopulationFault.TheVariants.{TooFew, OutOfMemory}
use Rattle.imkl_population.specs.FinishedPopulation.{FinishedPopulation}
use Rattle.imkl_population.specs.Numbers.{first_below}
use Rattle.imkl_population.specs.Population.{Population, class_of, written_at, values_of}
use Rattle.imkl_model.specs.Features.{is_opposite}
use Rattle.imkl_population.specs.Building.{bounds_fault, unless}

-- an attribute or source end of an object has fewer values than its lower bound: what was set has enough, so it was
-- never set
abbrev pub gap : Population → ℕ → ℕ → Option PopulationFault
gap p o f =
    if belongs p.model (class_of p o) f && not (is_opposite (feature_at p.model f).role) && nat_lt (length (written_at p o f)) (feature_at p.model f).lower
    then Some (TooFew o f)
    else None

-- an opposite end of an object against its bounds
abbrev pub end_fault : Population → ℕ → ℕ → Option PopulationFault
end_fault p o f =
    if belongs p.model (class_of p o) f && is_opposite (feature_at p.model f).role
    then bounds_fault (feature_at p.model f) o f (length (values_of p o f))
    else None

-- the first over objects, and in each over the features in the model's order
abbrev pub first_object_fault : (Population → ℕ → ℕ → Option PopulationFault) → Population → Option PopulationFault
first_object_fault fault p = first_below (λ o. first_below (fault p o) (length p.model.features)) (length p.objects)

abbrev pub finish_outcome : Population → Result Population PopulationFault
finish_outcome p = unless (option_or (first_object_fault gap p) (first_object_fault end_fault p)) p

-- The end of a building: the population of what was added, or the first fault, unless memory ran out.
abbrev pub Finishes : Result Population PopulationFault → Result FinishedPopulation PopulationFault → Type 0
Finishes given (Ok p) = given ≡ Ok p.content
Finishes given (Err OutOfMemory) = Unit {0}
Finishes given (Err e) = given ≡ Err e
