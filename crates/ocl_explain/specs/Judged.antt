-- What `judge` answers of the bytes of its inputs where the rules come as text: the report of what rules mean of a population,
-- or a refusal.
use Rattle.std.specs.Prelude.{◌≡◌, ℕ, List, Ok}
use Rattle.imkl_model.specs.ClassModel.{Model}
use Rattle.imkl_population.specs.Population.{Population}
use Rattle.ocl_text.specs.Tree.{Rule}
use Rattle.ocl_core.specs.Core.{CheckedRule}
use Rattle.ocl_types.specs.AllRules.{elaborate_rules}
use Rattle.ocl_check.specs.declared.commands.judge.RulesForm.TheVariants.{Text}
use Rattle.ocl_check.specs.Reply.{Answer}
use Rattle.ocl_check.specs.JudgeText.{meant_answer, text_answer, JudgeAnswersBy}
use Rattle.ocl_pipeline.specs.TextReading.{ReadsAs}
use Rattle.ocl_pipeline.specs.Inputs.{model_of, population_of}

-- the bytes of a text are read as rules that have types, and within the budget the answer of `judge` is the report of what these
-- mean of this population
abbrev pub AreJudgedOf : ℕ → Population → List ℕ → List CheckedRule → Type 0
AreJudgedOf budget p rules rs =
    (t : List Rule) × ReadsAs rules (Ok t) × (elaborate_rules p.model 0 t ≡ Ok rs) × (text_answer budget (Ok t) p ≡ meant_answer p rs)

-- the bytes of a class model and a delivery describe that population
abbrev pub AreJudged : ℕ → List ℕ → List ℕ → List ℕ → Population → List CheckedRule → Type 0
AreJudged budget model delivery rules p rs =
    (m : Model) × (model_of model ≡ Ok m) × (population_of m delivery ≡ Ok p) × AreJudgedOf budget p rules rs

-- the answer of `judge` to inputs of which it refuses one
abbrev pub IsRefusedBy : ℕ → List ℕ → List ℕ → List ℕ → Answer → Type 0
IsRefusedBy budget model delivery rules answer = JudgeAnswersBy Text budget model delivery rules answer × (answer.1 ≡ 2)
