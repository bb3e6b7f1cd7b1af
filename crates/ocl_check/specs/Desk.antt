-- What `desk` answers: the replies to a script, each job being the report on the delivery by the code.
use Rattle.std.specs.Prelude.{ℕ, List, Result, Ok, Err}
use Rattle.imkl_population.specs.Population.{Population}
use Rattle.imkl_population.specs.Sizes.{sizes_of}
use Rattle.rule_code.specs.Content.{Content}
use Rattle.rule_verify.specs.Resolved.{resolved_unit}
use Rattle.rule_cost.specs.Admission.{Admission, admission}
use Rattle.desk_script.specs.declared.call.Call.{Call}
use Rattle.desk_script.specs.Script.{script_of}
use Rattle.desk_replies.specs.Replies.{script_replies}
use Rattle.ocl_check.specs.declared.commands.judge.TheConstants.{MAX_BUDGET}
use Rattle.ocl_check.specs.Reply.{Answer, refused_cost, refused_script}
use Rattle.ocl_check.specs.CodeRules.{code_file_answer}
use Rattle.ocl_check.specs.ThreeInputs.{inputs_answer}

-- a unit that is accepted in the class model of a population, and admitted within the greatest budget
abbrev pub desk_admission : Population → Content → Admission
desk_admission p u = record { resolved = resolved_unit p.model u; sizes = sizes_of p; budget = MAX_BUDGET }

-- a script is refused at its first wrong line, else its calls are answered, which is a success whatever the replies are
abbrev pub script_answer : Admission → Population → Result (List Call) ℕ → Answer
script_answer a p (Err line) = refused_script line
script_answer a p (Ok calls) = (script_replies a p calls, 0)

-- a unit with a rule that isn't within the budget is refused before the script
abbrev pub admitted_script_answer : List ℕ → Population → Content → Result (Unit {0}) ℕ → Answer
admitted_script_answer script p u (Err r) = refused_cost r
admitted_script_answer script p u (Ok _) = script_answer (desk_admission p u) p (script_of script)

-- what is answered to a script of a population and a unit accepted in its class model
abbrev pub calls_answer : List ℕ → Population → Content → Answer
calls_answer script p u = admitted_script_answer script p u (admission u (sizes_of p) MAX_BUDGET)

-- what `desk` answers of the bytes of a class model, a delivery, a code file and a script: the line of the first that is
-- refused, else the replies
abbrev pub desk_answer : List ℕ → List ℕ → List ℕ → List ℕ → Answer
desk_answer model delivery code script = inputs_answer (code_file_answer (calls_answer script) code) model delivery
