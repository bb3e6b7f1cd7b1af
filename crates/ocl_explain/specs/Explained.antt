-- What is printed of an explanation that was found, or of none, and of rules that are compiled.
use Rattle.std.specs.Prelude.{ℕ, List, Option, Some, None, string_bytes}
use Rattle.ocl_check.specs.declared.commands.judge.TheConstants.{MAX_BUDGET}
use Rattle.ocl_check.specs.Reply.{Answer}
use Rattle.ocl_check.specs.Given.{given_answer, pair_answer, meant_within}
use Rattle.ocl_check.specs.Judge.{budget_answer}
use Rattle.ocl_pipeline.specs.TextReading.{TextReading}
use Rattle.ocl_pipeline.specs.Asked.{PopulationAndRules, PopulationAndUnit, admitted_in, code_with}
use Rattle.ocl_pipeline.specs.Steps.{inputs_in}
use Rattle.ocl_explain.specs.declared.verdicts.Found.{Found}
use Rattle.ocl_explain.specs.declared.verdicts.Found.TheVariants.{Explained, NoRule, NoObject, NotJudged}
use Rattle.ocl_explain.specs.declared.weaving.Shown.{Shown}
use Rattle.ocl_explain.specs.RuleNames.{names_by}
use Rattle.ocl_explain.specs.WhyAnswers.{why_text, why_answer, shown_answer}
use Rattle.ocl_explain.specs.ExplainedReport.{rules_explainer, code_explainer, explained_answer}

-- the explanation that was found
abbrev pub found_text : Found → Option (List ℕ)
found_text (Explained text object) = Some (string_bytes text)
found_text NoRule = None
found_text NoObject = None
found_text (NotJudged context class) = None

-- what `why` answers of a population and compiled rules, by what their text is read as: refused for the cost of one, else the
-- explanation
abbrev pub why_of : TextReading → List ℕ → List ℕ → ℕ → PopulationAndRules → Answer
why_of t name id lines asked =
    given_answer (λ _. shown_answer lines (why_answer (why_text asked.0 (names_by t asked.1.rules) asked.1.rules name id))) (admitted_in MAX_BUDGET asked.0 asked.1.unit)

-- what `judge --why` answers of them, or `why` of a rule
abbrev pub explained_within : TextReading → ℕ → Shown → Option (List ℕ) → PopulationAndRules → Answer
explained_within t budget shown rule asked =
    explained_answer (rules_explainer asked.0 (names_by t asked.1.rules) asked.1.rules) shown rule (meant_within budget asked)

-- the same of a population and a unit
abbrev pub code_explained_within : ℕ → Shown → Option (List ℕ) → PopulationAndUnit → Answer
code_explained_within budget shown rule asked =
    explained_answer (code_explainer asked.0 asked.1) shown rule (pair_answer (budget_answer budget) asked)

-- and of the bytes of a class model, a delivery and a code file
abbrev pub code_explained_answer : ℕ → Shown → Option (List ℕ) → List ℕ → List ℕ → List ℕ → Answer
code_explained_answer budget shown rule model delivery code =
    given_answer (code_explained_within budget shown rule) (code_with code (inputs_in model delivery))
