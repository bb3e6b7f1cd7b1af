-- What holds of the code files that are compiled from rule texts.
use Rattle.std.specs.Prelude.{◌≡◌, ◌<◌, ℕ, List, Ok, slice_index_or}
use Rattle.imkl_model.specs.WellFormed.{IsClassModel}
use Rattle.imkl_population.specs.Population.{Population}
use Rattle.imkl_population.specs.Consistency.{IsConsistent}
use Rattle.rule_code.specs.WellFormed.{IsUnit}
use Rattle.rule_code.specs.Spelling.{spelling}
use Rattle.ocl_pipeline.specs.TextReading.{TextReading}
use Rattle.ocl_pipeline.specs.CompiledRules.{CompiledRules, compiled_rules}
use Rattle.ocl_check.specs.CodeRules.{code_file_answer}
use Rattle.ocl_check.specs.Judge.{budget_answer}
use Rattle.ocl_check.specs.JudgeText.{text_answer}

-- bytes that spell the unit of a text's rules in the class model of a population
pub record IsCompiledFile (p : Population) (t : TextReading) (c : CompiledRules) (code : List ℕ) : Type 0 where
  pub model : IsClassModel p.model
  pub population : IsConsistent p
  pub compiled : compiled_rules p.model t ≡ Ok c
  pub unit : IsUnit c.unit
  pub bytes : (i : ℕ) → slice_index_or code i 0 < 256
  pub spelled : code ≡ spelling c.unit

-- judging by a compiled file is judging by the text
abbrev pub CompiledFileIsJudgedAsItsText : Type 0
CompiledFileIsJudgedAsItsText =
    (budget : ℕ) (p : Population) (t : TextReading) (c : CompiledRules) (code : List ℕ)
    → IsCompiledFile p t c code
    → code_file_answer (budget_answer budget) code p ≡ text_answer budget t p
