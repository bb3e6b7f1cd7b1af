-- What is asked about: a population with rules, which come as a code file or as a text.
use Rattle.std.specs.Prelude.{◌≡◌, ℕ, List, Result, Ok}
use Rattle.ocl_base.specs.Steps.{◌>>=◌}
use Rattle.imkl_model.specs.WellFormed.{IsClassModel}
use Rattle.imkl_population.specs.Population.{Population}
use Rattle.imkl_population.specs.Consistency.{IsConsistent}
use Rattle.imkl_population.specs.Sizes.{sizes_of}
use Rattle.rule_code.specs.Content.{Content}
use Rattle.rule_code.specs.WellFormed.{IsUnit}
use Rattle.rule_verify.specs.Resolved.{resolved_unit}
use Rattle.rule_cost.specs.Admission.{Admission, admission}
use Rattle.ocl_pipeline.specs.declared.refusal.Refusal.{Refusal}
use Rattle.ocl_pipeline.specs.declared.refusal.Refusal.TheVariants.{Cost}
use Rattle.ocl_pipeline.specs.TextReading.{TextReading}
use Rattle.ocl_pipeline.specs.CompiledRules.{CompiledRules, compiled_rules}
use Rattle.ocl_pipeline.specs.Steps.{refused_as, unit_in, text_in}

-- a population, and a unit that is accepted in its class model
abbrev pub PopulationAndUnit : Type 0
PopulationAndUnit = Population × Content

-- a population, and rules that are compiled for its class model
abbrev pub PopulationAndRules : Type 0
PopulationAndRules = Population × CompiledRules

abbrev pub with_unit : Population → Content → Result PopulationAndUnit Refusal
with_unit p u = Ok (p, u)

abbrev pub with_rules : Population → CompiledRules → Result PopulationAndRules Refusal
with_rules p c = Ok (p, c)

-- a population with the rules of a code file
abbrev pub with_code : List ℕ → Population → Result PopulationAndUnit Refusal
with_code code p = unit_in p.model code >>= with_unit p

-- a population with the rules of a text
abbrev pub with_text : TextReading → Population → Result PopulationAndRules Refusal
with_text t p = text_in p.model t >>= with_rules p

-- the same, if the inputs before the rules are not refused
abbrev pub code_with : List ℕ → Result Population Refusal → Result PopulationAndUnit Refusal
code_with code given = given >>= with_code code

abbrev pub text_with : TextReading → Result Population Refusal → Result PopulationAndRules Refusal
text_with t given = given >>= with_text t

-- rules that are compiled from a text for the class model of a population
pub record AreCompiledFor (p : Population) (t : TextReading) (c : CompiledRules) : Type 0 where
  pub model : IsClassModel p.model
  pub population : IsConsistent p
  pub compiled : compiled_rules p.model t ≡ Ok c
  pub unit : IsUnit c.unit

-- a unit that is accepted in the class model of a population, admitted within a budget
abbrev pub admission_for : ℕ → Population → Content → Admission
admission_for budget p u = record { resolved = resolved_unit p.model u; sizes = sizes_of p; budget = budget }

-- the same, if each of its rules is within the budget
abbrev pub admitted_in : ℕ → Population → Content → Result Admission Refusal
admitted_in budget p u = do
  _ ← refused_as Cost (admission u (sizes_of p) budget)
  Ok (admission_for budget p u)
