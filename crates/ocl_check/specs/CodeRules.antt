-- What is answered of a population and a code file: the line of the first reason to refuse the file, else what is asked.
use Rattle.std.specs.Prelude.{List, ℕ, Result, Ok, Err}
use Rattle.imkl_population.specs.Population.{Population}
use Rattle.rule_code.specs.Content.{Content}
use Rattle.rule_code.specs.CodeFile.{CodeFaultAt, unit_of}
use Rattle.rule_verify.specs.KindRules.{InstrFault}
use Rattle.rule_verify.specs.UnitRules.{check_unit}
use Rattle.ocl_check.specs.Reply.{Answer, refused_code, refused_verify}

-- what is answered of a population and a unit that is accepted in its class model
abbrev pub UnitAnswer : Type 0
UnitAnswer = Population → Content → Answer

-- a unit with a fault is refused
abbrev pub unit_answer : UnitAnswer → Population → Content → Result (Unit {0}) InstrFault → Answer
unit_answer f p u (Err e) = refused_verify e
unit_answer f p u (Ok _) = f p u

abbrev pub code_answer : UnitAnswer → Population → Result Content CodeFaultAt → Answer
code_answer f p (Err l) = refused_code l
code_answer f p (Ok u) = unit_answer f p u (check_unit p.model u)

-- what is answered of a population and a code file
abbrev pub code_file_answer : UnitAnswer → List ℕ → Population → Answer
code_file_answer f code p = code_answer f p (unit_of code)
