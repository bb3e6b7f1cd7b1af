-- What is answered of a class model, a delivery and rules: the line of the first that is refused, else what is asked.
use Rattle.std.specs.Prelude.{ℕ, List, Result, Ok, Err}
use Rattle.imkl_model.specs.declared.fault.ModelFault.{ModelFault}
use Rattle.imkl_model.specs.ClassModel.{Model}
use Rattle.imkl_population.specs.Population.{Population}
use Rattle.imkl_delivery.specs.declared.fault.DeliveryFault.{DeliveryFault}
use Rattle.ocl_pipeline.specs.Inputs.{model_of, population_of}
use Rattle.ocl_check.specs.Reply.{Answer, refused_model, refused_delivery}

-- what is answered of a population, by rules that come with it
abbrev pub PopulationAnswer : Type 0
PopulationAnswer = Population → Answer

abbrev pub delivery_answer : PopulationAnswer → Result Population DeliveryFault → Answer
delivery_answer f (Err e) = refused_delivery e
delivery_answer f (Ok p) = f p

abbrev pub model_answer : PopulationAnswer → Result Model ModelFault → List ℕ → Answer
model_answer f (Err e) delivery = refused_model e
model_answer f (Ok m) delivery = delivery_answer f (population_of m delivery)

-- what is answered of the bytes of a class model and a delivery
abbrev pub inputs_answer : PopulationAnswer → List ℕ → List ℕ → Answer
inputs_answer f model delivery = model_answer f (model_of model) delivery
