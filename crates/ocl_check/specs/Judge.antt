-- What `judge` answers.
use Rattle.std.specs.Prelude.{ℕ, zero, suc, ◌+◌, List, Result, Ok, Err}
use Rattle.imkl_population.specs.Population.{Population}
use Rattle.imkl_population.specs.Sizes.{sizes_of}
use Rattle.rule_code.specs.Content.{Content}
use Rattle.rule_cost.specs.Admission.{admission}
use Rattle.rule_report.specs.declared.summary.Summary.{Summary}
use Rattle.rule_report.specs.Report.{report_of, summary_of}
use Rattle.ocl_check.specs.Reply.{Answer, refused_cost}
use Rattle.ocl_check.specs.CodeRules.{code_file_answer}
use Rattle.ocl_check.specs.ThreeInputs.{inputs_answer}

-- 0 where every rule holds for each object of its context class, 1 where a rule fails or is undecided for one
abbrev pub status_by : ℕ → ℕ
status_by zero = 0
status_by (suc n) = 1

abbrev pub status_of : Summary → ℕ
status_of s = status_by (s.fails + s.undecided)

-- the report, with its status
abbrev pub report_answer : Population → Content → Answer
report_answer p u = (report_of u p, status_of (summary_of u p))

-- a unit with a rule that isn't within the budget is refused, else its rules are judged
abbrev pub admitted_answer : Population → Content → Result (Unit {0}) ℕ → Answer
admitted_answer p u (Err r) = refused_cost r
admitted_answer p u (Ok _) = report_answer p u

-- what is answered, within a budget of steps for each rule and object, of a population and a unit accepted in its class
-- model
abbrev pub budget_answer : ℕ → Population → Content → Answer
budget_answer budget p u = admitted_answer p u (admission u (sizes_of p) budget)

-- what `judge` answers, within a budget, of the bytes of a class model, a delivery and a code file: the line of the
-- first that is refused, else the report
abbrev pub judge_answer : ℕ → List ℕ → List ℕ → List ℕ → Answer
judge_answer budget model delivery code = inputs_answer (code_file_answer (budget_answer budget) code) model delivery
