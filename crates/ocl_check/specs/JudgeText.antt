-- What `judge` answers of rules that come as text: the report of what they mean.
use Rattle.std.specs.Prelude.{ℕ, ◌≡◌, List, Result, Ok, Err}
use Rattle.imkl_population.specs.Population.{Population}
use Rattle.imkl_population.specs.Sizes.{sizes_of}
use Rattle.ocl_core.specs.Core.{CheckedRule}
use Rattle.rule_cost.specs.Admission.{admission}
use Rattle.ocl_check.specs.declared.commands.judge.RulesForm.{RulesForm}
use Rattle.ocl_check.specs.declared.commands.judge.RulesForm.TheVariants.{Code, Text}
use Rattle.ocl_check.specs.declared.commands.judge.JudgeOptions.{JudgeOptions}
use Rattle.ocl_check.specs.Reply.{Answer, refused_cost, refused_rules}
use Rattle.ocl_pipeline.specs.TextReading.{TextReading, ReadsAs}
use Rattle.ocl_pipeline.specs.CompiledRules.{CompiledRules, TextRefusal, compiled_rules}
use Rattle.ocl_check.specs.MeantReport.{meant_report, meant_summary}
use Rattle.ocl_check.specs.ThreeInputs.{inputs_answer}
use Rattle.ocl_check.specs.Judge.{status_of, judge_answer}

-- the report that rules mean, with its status
abbrev pub meant_answer : Population → List CheckedRule → Answer
meant_answer p rs = (meant_report p rs, status_of (meant_summary p rs))

-- rules of which one isn't within the budget are refused
abbrev pub within_answer : Population → List CheckedRule → Result (Unit {0}) ℕ → Answer
within_answer p rs (Err r) = refused_cost r
within_answer p rs (Ok _) = meant_answer p rs

-- The code of rules decides only whether they are refused for a limit of code, or for their cost.
abbrev pub rules_answer : ℕ → Population → Result CompiledRules TextRefusal → Answer
rules_answer budget p (Err refusal) = refused_rules refusal
rules_answer budget p (Ok c) = within_answer p c.rules (admission c.unit (sizes_of p) budget)

-- what is answered, within a budget, of a population and what a rule text is read as
abbrev pub text_answer : ℕ → TextReading → Population → Answer
text_answer budget t p = rules_answer budget p (compiled_rules p.model t)

-- what `judge` answers, within a budget, of the bytes of a class model and a delivery and what a rule text is read as
abbrev pub judge_text_answer : ℕ → List ℕ → List ℕ → TextReading → Answer
judge_text_answer budget model delivery t = inputs_answer (text_answer budget t) model delivery

-- what `judge` may answer of the bytes of its three inputs: one answer, but where a text is refused as Syntax or TooDeep
abbrev pub JudgeAnswersBy : RulesForm → ℕ → List ℕ → List ℕ → List ℕ → Answer → Type 0
JudgeAnswersBy Code budget model delivery rules answer = answer ≡ judge_answer budget model delivery rules
JudgeAnswersBy Text budget model delivery rules answer =
    (t : TextReading) × ReadsAs rules t × (answer ≡ judge_text_answer budget model delivery t)

abbrev pub JudgeAnswers : JudgeOptions → List ℕ → List ℕ → List ℕ → Answer → Type 0
JudgeAnswers options model delivery rules answer = JudgeAnswersBy options.form options.budget model delivery rules answer
