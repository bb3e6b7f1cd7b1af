-- Each step of the pipeline, as a function of the bytes that are read: what it gives, or the refusal.
use Rattle.std.specs.Prelude.{ℕ, List, Result, Ok, Err}
use Rattle.ocl_base.specs.Steps.{◌>>=◌}
use Rattle.imkl_model.specs.ClassModel.{Model}
use Rattle.imkl_population.specs.Population.{Population}
use Rattle.rule_code.specs.Content.{Content}
use Rattle.rule_code.specs.CodeFile.{CodeFaultAt, unit_of}
use Rattle.rule_verify.specs.KindRules.{InstrFault}
use Rattle.rule_verify.specs.UnitRules.{check_unit}
use Rattle.ocl_pipeline.specs.declared.refusal.Refusal.{Refusal}
use Rattle.ocl_pipeline.specs.declared.refusal.Refusal.TheVariants as refusal
use Rattle.ocl_pipeline.specs.Inputs.{model_of, population_of}
use Rattle.ocl_pipeline.specs.TextReading.{TextReading}
use Rattle.ocl_pipeline.specs.CompiledRules.{CompiledRules, TextRefusal, InText, InTypes, InCode, compiled_rules}

-- a fault of a layer, as a refusal
abbrev pub refused_as : {A E : Type 0} → (E → Refusal) → Result A E → Result A Refusal
refused_as f (Ok x) = Ok x
refused_as f (Err e) = Err (f e)

abbrev pub code_refusal : CodeFaultAt → Refusal
code_refusal l = refusal.Code l.flaw l.offset

abbrev pub verify_refusal : InstrFault → Refusal
verify_refusal l = refusal.Verify l.flaw l.rule l.at

abbrev pub text_refusal : TextRefusal → Refusal
text_refusal (InText f) = refusal.Text f.flaw f.offset
text_refusal (InTypes f) = refusal.Types f.flaw f.rule f.offset
text_refusal (InCode l) = refusal.Compile l.limit l.rule

-- the class model that bytes describe
abbrev pub model_in : List ℕ → Result Model Refusal
model_in bytes = refused_as refusal.Model (model_of bytes)

-- the population that bytes describe
abbrev pub population_in : List ℕ → Model → Result Population Refusal
population_in bytes m = refused_as refusal.Delivery (population_of m bytes)

-- the population that the bytes of a class model and a delivery describe
abbrev pub inputs_in : List ℕ → List ℕ → Result Population Refusal
inputs_in model delivery = model_in model >>= population_in delivery

-- a unit, if it is accepted in a class model
abbrev pub accepted_in : Model → Content → Result Content Refusal
accepted_in m u = do
  _ ← refused_as verify_refusal (check_unit m u)
  Ok u

-- the unit that a code file spells, if it is accepted in a class model
abbrev pub unit_in : Model → List ℕ → Result Content Refusal
unit_in m code = refused_as code_refusal (unit_of code) >>= accepted_in m

-- the rules that a text is read as, compiled for a class model
abbrev pub text_in : Model → TextReading → Result CompiledRules Refusal
text_in m t = refused_as text_refusal (compiled_rules m t)
