-- What is answered of what the pipeline gives.
use Rattle.std.specs.Prelude.{◌≡◌, ℕ, Result, Ok, Err, ⊤}
use Rattle.imkl_population.specs.Sizes.{sizes_of}
use Rattle.rule_cost.specs.Admission.{admission}
use Rattle.ocl_pipeline.specs.declared.refusal.Refusal.{Refusal}
use Rattle.ocl_pipeline.specs.declared.stopped.Stopped.{Stopped}
use Rattle.ocl_pipeline.specs.declared.stopped.Stopped.TheVariants.{Refused, OutOfMemory}
use Rattle.ocl_pipeline.specs.Asked.{PopulationAndUnit, PopulationAndRules}
use Rattle.ocl_check.specs.Reply.{Answer, refused}
use Rattle.ocl_check.specs.CodeRules.{UnitAnswer}
use Rattle.ocl_check.specs.JudgeText.{within_answer}

-- the line of a refusal, else what is asked
abbrev pub given_answer : {A : Type 0} → (A → Answer) → Result A Refusal → Answer
given_answer f (Ok x) = f x
given_answer f (Err r) = refused r

-- what is answered of a population and a unit
abbrev pub pair_answer : UnitAnswer → PopulationAndUnit → Answer
pair_answer f asked = f asked.0 asked.1

-- the report that the rules of a text mean, within a budget
abbrev pub meant_within : ℕ → PopulationAndRules → Answer
meant_within budget asked = within_answer asked.0 asked.1.rules (admission asked.1.unit (sizes_of asked.0) budget)

-- a refusal is answered by its line; running out of memory is not a refusal
abbrev pub IsRefusedAs : Stopped → Answer → Type 0
IsRefusedAs (Refused r) answer = answer ≡ refused r
IsRefusedAs OutOfMemory answer = ⊥

-- the answer is due where this is why there is no other; where memory ran out, any could have been
abbrev pub IsDueFor : Stopped → Answer → Type 0
IsDueFor (Refused r) answer = refused r ≡ answer
IsDueFor OutOfMemory answer = ⊤
