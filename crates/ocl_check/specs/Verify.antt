-- What the command `verify` answers.
use Rattle.std.specs.Prelude.{ℕ, List, length, Result, Ok, Err}
use Rattle.imkl_model.specs.declared.fault.ModelFault.{ModelFault}
use Rattle.imkl_model.specs.ClassModel.{Model}
use Rattle.rule_code.specs.Content.{Content}
use Rattle.rule_code.specs.CodeFile.{CodeFaultAt, unit_of}
use Rattle.rule_verify.specs.KindRules.{InstrFault}
use Rattle.rule_verify.specs.UnitRules.{check_unit}
use Rattle.ocl_pipeline.specs.Inputs.{model_of}
use Rattle.ocl_check.specs.Reply.{Answer, refused_model, refused_code, refused_verify, accepted_reply}

-- a unit with a fault is refused, else it is accepted
abbrev pub checked_answer : Content → Result (Unit {0}) InstrFault → Answer
checked_answer u (Err f) = refused_verify f
checked_answer u (Ok _) = accepted_reply (length u.rules)

abbrev pub verify_code_answer : Model → Result Content CodeFaultAt → Answer
verify_code_answer m (Err l) = refused_code l
verify_code_answer m (Ok u) = checked_answer u (check_unit m u)

abbrev pub verify_model_answer : Result Model ModelFault → List ℕ → Answer
verify_model_answer (Err e) code = refused_model e
verify_model_answer (Ok m) code = verify_code_answer m (unit_of code)

-- what `verify` answers of the bytes of its two inputs: the line of the first that is refused, else the number of rules
abbrev pub verify_answer : List ℕ → List ℕ → Answer
verify_answer model code = verify_model_answer (model_of model) code
