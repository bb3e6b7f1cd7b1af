-- What `judge` prints in a form: its answer as the form has it, with the places, classes and messages of the findings, and with
-- explanations where these are wanted.
use Rattle.std.specs.Prelude.{◌≡◌, ◌⊎◌, ℕ, List, None, Result, Ok, Err, ⊤}
use Rattle.imkl_model.specs.ClassModel.{Model}
use Rattle.imkl_population.specs.Population.{Population}
use Rattle.ocl_pipeline.specs.declared.refusal.Refusal.{Refusal}
use Rattle.ocl_pipeline.specs.declared.stopped.Stopped.{Stopped}
use Rattle.ocl_pipeline.specs.declared.stopped.Stopped.TheVariants.{Refused, OutOfMemory}
use Rattle.ocl_pipeline.specs.Inputs.{model_of, population_of}
use Rattle.ocl_pipeline.specs.TextReading.{TextReading}
use Rattle.ocl_pipeline.specs.Asked.{PopulationAndRules, PopulationAndUnit}
use Rattle.ocl_check.specs.declared.commands.judge.JudgeOptions.{JudgeOptions}
use Rattle.ocl_check.specs.declared.commands.judge.RulesForm.{RulesForm}
use Rattle.ocl_check.specs.declared.commands.judge.RulesForm.TheVariants.{Code, Text}
use Rattle.ocl_check.specs.Reply.{Answer, refused}
use Rattle.ocl_check.specs.Given.{pair_answer, meant_within}
use Rattle.ocl_check.specs.Judge.{budget_answer}
use Rattle.ocl_check.specs.JudgeText.{JudgeAnswers}
use Rattle.explain_faults.specs.declared.fault.Fault.{Fault}
use Rattle.report_forms.specs.declared.beside.RuleMessage.{RuleMessage}
use Rattle.report_forms.specs.declared.form.Form.{Form}
use Rattle.report_forms.specs.Places.{entry_places}
use Rattle.report_forms.specs.Findings.{Context}
use Rattle.report_forms.specs.Forms.{form_of_answer, form_of_refusal}
use Rattle.ocl_explain.specs.declared.weaving.Shown.{Shown}
use Rattle.ocl_explain.specs.declared.weaving.Detail.{Detail}
use Rattle.ocl_explain.specs.declared.weaving.Detail.TheVariants as detail
use Rattle.ocl_explain.specs.Explained.{explained_within, code_explained_within, code_explained_answer}
use Rattle.ocl_explain.specs.ExplainedReport.{ExplainedAnswers}

-- ---- what is told of findings

-- the report that rules mean of a population, with explanations if these are wanted, by what the rules' text is read as
abbrev pub detailed_within : TextReading → ℕ → Detail → PopulationAndRules → Answer
detailed_within t budget detail.Verdict asked = meant_within budget asked
detailed_within t budget (detail.Why shown) asked = explained_within t budget shown None asked

-- that of a unit
abbrev pub code_detailed_within : ℕ → Detail → PopulationAndUnit → Answer
code_detailed_within budget detail.Verdict asked = pair_answer (budget_answer budget) asked
code_detailed_within budget (detail.Why shown) asked = code_explained_within budget shown None asked

-- what may be answered with explanations, by the form of the rules
abbrev pub WhyAnswersOf : RulesForm → ℕ → Shown → List ℕ → List ℕ → List ℕ → Answer → Type 0
WhyAnswersOf Code budget shown model delivery rules a = a ≡ code_explained_answer budget shown None model delivery rules
WhyAnswersOf Text budget shown model delivery rules a = ExplainedAnswers budget shown None model delivery rules a

-- what may be answered of the bytes of the three inputs
abbrev pub DetailedAnswers : Detail → JudgeOptions → List ℕ → List ℕ → List ℕ → Answer → Type 0
DetailedAnswers detail.Verdict options model delivery rules a = JudgeAnswers options model delivery rules a
DetailedAnswers (detail.Why shown) options model delivery rules a = WhyAnswersOf options.form options.budget shown model delivery rules a

-- ---- forms

-- what is known beside the report on the population that a delivery describes: the delivery's path and its bytes, and the
-- messages of the rules
abbrev pub context_in : List ℕ → List ℕ → List RuleMessage → Population → Context
context_in path delivery messages p = record { path = path; population = p; places = entry_places delivery; messages = messages }

-- the form of the line of a refusal, with some faults of what is refused
abbrev pub formed_refusal : Form → List ℕ → List Fault → Answer → Answer
formed_refusal form path faults a = (form_of_refusal form path faults a.0, a.1)

-- that of any answer
abbrev pub formed_in : Form → List ℕ → List ℕ → List RuleMessage → List Fault → Population → Answer → Answer
formed_in form path delivery messages faults p a = form_of_answer form (context_in path delivery messages p) faults a

-- that of what is answered of what the pipeline gives
abbrev pub formed_given : {A : Type 0} → Form → List ℕ → List ℕ → List RuleMessage → List Fault → (A → Population) → (A → Answer) → Result A Refusal → Answer
formed_given form path delivery messages faults of f (Ok x) = formed_in form path delivery messages faults (of x) (f x)
formed_given form path delivery messages faults of f (Err r) = formed_refusal form path faults (refused r)

-- it is due where this is why there is no other answer
abbrev pub IsFormDue : Form → List ℕ → List Fault → Stopped → Answer → Type 0
IsFormDue form path faults (Refused r) formed = formed_refusal form path faults (refused r) ≡ formed
IsFormDue form path faults OutOfMemory formed = ⊤

-- the bytes of a class model and a delivery describe a population
abbrev pub AreInputsOf : List ℕ → List ℕ → Population → Type 0
AreInputsOf model delivery p = (m : Model) × (model_of model ≡ Ok m) × (population_of m delivery ≡ Ok p)

-- the form of an answer: of a refusal, or of a report on the population
abbrev pub IsFormOf : Form → List ℕ → List RuleMessage → List Fault → List ℕ → List ℕ → Answer → Answer → Type 0
IsFormOf form path messages faults model delivery a formed =
    ((a.1 ≡ 2) × (formed ≡ formed_refusal form path faults a))
    ⊎ ((p : Population) × AreInputsOf model delivery p × (formed ≡ formed_in form path delivery messages faults p a))

-- what may be printed of the bytes of the three inputs, with some messages of rules, and with some faults where one is refused
abbrev pub FormAnswers : Form → Detail → List ℕ → JudgeOptions → List ℕ → List ℕ → List ℕ → Answer → Type 0
FormAnswers form detail path options model delivery rules formed =
    (messages : List RuleMessage) × (faults : List Fault) × (a : Answer) × DetailedAnswers detail options model delivery rules a
    × IsFormOf form path messages faults model delivery a formed
