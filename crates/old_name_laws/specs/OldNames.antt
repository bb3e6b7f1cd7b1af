-- Class models and populations that differ in old names alone.
use Rattle.std.specs.Prelude.{◌≡◌, Result, Ok, Err}
use Rattle.imkl_model.specs.ClassModel.{Model, Renames}
use Rattle.imkl_population.specs.Population.{Population}
use Rattle.imkl_delivery.specs.declared.fault.DeliveryFault.{DeliveryFault}

-- the same class model, but for its old names, which are these
abbrev pub with_old_names : Renames → Model → Model
with_old_names r m = record m { renames = r }

-- two class models differ at most in their old names: the second is the first with its own
abbrev pub DifferInOldNames : Model → Model → Type 0
DifferInOldNames m n = n ≡ with_old_names n.renames m

-- the same population, but for the old names of its class model
abbrev pub population_with : Renames → Population → Population
population_with r p = record p { model = with_old_names r p.model }

-- the same of what a document describes, or its fault
abbrev pub described_with : Renames → Result Population DeliveryFault → Result Population DeliveryFault
described_with r (Ok p) = Ok (population_with r p)
described_with r (Err e) = Err e
