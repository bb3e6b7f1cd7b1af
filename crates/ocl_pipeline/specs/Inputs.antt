-- What the bytes of a class model and of a delivery describe.
use Rattle.std.specs.Prelude.{ℕ, List, Option, Some, None, Result, Err, if◌then◌else◌}
use Rattle.std.specs.Str.{is_utf8}
use Rattle.serde_json.specs.Data.{Data}
use Rattle.serde_json.specs.Read.{read}
use Rattle.imkl_model.specs.declared.fault.ModelFault.{ModelFault}
use Rattle.imkl_model.specs.declared.fault.ModelFault.TheVariants as model
use Rattle.imkl_model.specs.ClassModel.{Model}
use Rattle.imkl_model.specs.Description.{describes_model}
use Rattle.imkl_population.specs.Population.{Population}
use Rattle.imkl_delivery.specs.declared.fault.DeliveryFault.{DeliveryFault}
use Rattle.imkl_delivery.specs.declared.fault.DeliveryFault.TheVariants as delivery
use Rattle.imkl_delivery.specs.Loading.{describes_population}

-- the tree of a JSON text, if the bytes are one
abbrev pub json_of : List ℕ → Option Data
json_of bytes = if is_utf8 bytes then read bytes else None

-- the class model that a file describes, or its first fault
abbrev pub model_by : Option Data → Result Model ModelFault
model_by None = Err model.NotJson
model_by (Some d) = describes_model d

abbrev pub model_of : List ℕ → Result Model ModelFault
model_of bytes = model_by (json_of bytes)

-- the population that a document describes, or its first fault
abbrev pub population_by : Model → Option Data → Result Population DeliveryFault
population_by m None = Err delivery.NotJson
population_by m (Some d) = describes_population m d

abbrev pub population_of : Model → List ℕ → Result Population DeliveryFault
population_of m bytes = population_by m (json_of bytes)
