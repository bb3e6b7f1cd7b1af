-- What the command `compile` answers.
use Rattle.std.specs.Prelude.{◌≡◌, ℕ, Bool, true, false, List, length, take, Option, Some, None, Result, Ok, Err, ⊤}
use Rattle.std.specs.Io.KnownBytes.{Appends}
use Rattle.imkl_model.specs.declared.fault.ModelFault.{ModelFault}
use Rattle.imkl_model.specs.ClassModel.{Model}
use Rattle.rule_code.specs.Content.{Content}
use Rattle.rule_code.specs.Spelling.{spelling}
use Rattle.rule_code.specs.WellFormed.{IsUnit}
use Rattle.ocl_check.specs.declared.outcome.Outcome.{Outcome}
use Rattle.ocl_check.specs.declared.outcome.Outcome.TheVariants.{Status, Failed}
use Rattle.ocl_check.specs.declared.outcome.CommandFault.TheVariants.{Write}
use Rattle.ocl_pipeline.specs.Inputs.{model_of}
use Rattle.ocl_check.specs.Reply.{Answer, refused_model, refused_rules, compiled_reply}
use Rattle.ocl_pipeline.specs.TextReading.{TextReading}
use Rattle.ocl_pipeline.specs.CompiledRules.{CompiledRules, TextRefusal, compiled_rules}

-- the code file, unless an input is refused, and what is printed
pub record CompileAnswer : Type 0 where
  pub code : Option (List ℕ)
  pub said : Answer

abbrev pub nothing_compiled : Answer → CompileAnswer
nothing_compiled answer = record { code = None; said = answer }

abbrev pub compiled_code : Content → CompileAnswer
compiled_code u = record { code = Some (spelling u); said = compiled_reply (length u.rules) }

abbrev pub compiled_answer : Result CompiledRules TextRefusal → CompileAnswer
compiled_answer (Err refusal) = nothing_compiled (refused_rules refusal)
compiled_answer (Ok c) = compiled_code c.unit

abbrev pub compile_model_answer : Result Model ModelFault → TextReading → CompileAnswer
compile_model_answer (Err e) t = nothing_compiled (refused_model e)
compile_model_answer (Ok m) t = compiled_answer (compiled_rules m t)

-- what `compile` answers of the bytes of a class model and what a rule text is read as
abbrev pub compile_answer : List ℕ → TextReading → CompileAnswer
compile_answer model t = compile_model_answer (model_of model) t

-- the unit that rules are compiled to, if they are, keeps the conditions of the format
abbrev pub HasUnit : Result CompiledRules TextRefusal → Type 0
HasUnit (Err refusal) = ⊤
HasUnit (Ok c) = IsUnit c.unit

abbrev pub HasUnitFor : Result Model ModelFault → TextReading → Type 0
HasUnitFor (Err e) t = ⊤
HasUnitFor (Ok m) t = HasUnit (compiled_rules m t)

-- where a command ended with a status, the unit of its code file, if there is one, keeps the conditions of the format
abbrev pub IsOfUnit : Outcome → List ℕ → TextReading → Type 0
IsOfUnit (Status s) model t = HasUnitFor (model_of model) t
IsOfUnit (Failed fault) model t = ⊤

-- all of it was written, but where the sink has failed a prefix
abbrev pub WholeUnless : Bool → Option (List ℕ) → Option (List ℕ) → List ℕ → Type 0
WholeUnless false old new code = Appends old new code
WholeUnless true old new code = (n : ℕ) × Appends old new (take n code)

-- What was written of a code file: all of it where the command ended with a status, or where only its reply couldn't be
-- written; a prefix where the file couldn't. Its sink is as it was where there is no code file, or memory or a read
-- failed.
abbrev pub IsCodeWritten : {S : Type 0} → (S → Option (List ℕ)) → (S → Bool) → Option (List ℕ) → S → S → Outcome → Type 0
IsCodeWritten contents has_failed None old new outcome = new ≡ old
IsCodeWritten contents has_failed (Some code) old new (Status s) = Appends (contents old) (contents new) code
IsCodeWritten contents has_failed (Some code) old new (Failed Write) = WholeUnless (has_failed new) (contents old) (contents new) code
IsCodeWritten contents has_failed (Some code) old new (Failed fault) = new ≡ old
