-- What a call returns, and what the caller's buffer has then: as much of the answer as there was room for.
use Rattle.std.specs.Prelude.{◌≡◌, ◌⊎◌, ℕ, Bool, true, false, Option, Some, None, List, ◌++◌, length, take, drop, nat_le, if◌then◌else◌}
use Rattle.ocl_check.specs.declared.commands.judge.JudgeOptions.{JudgeOptions}
use Rattle.ocl_check.specs.declared.commands.judge.RulesForm.{RulesForm}
use Rattle.ocl_check.specs.declared.commands.judge.RulesForm.TheVariants.{Code, Text}
use Rattle.ocl_check.specs.Compile.{CompileAnswer, compile_answer}
use Rattle.ocl_check.specs.Reply.{Answer}
use Rattle.ocl_pipeline.specs.TextReading.{TextReading, ReadsAs}

-- the form in which rules come
abbrev pub rules_form : Bool → RulesForm
rules_form true = Text
rules_form false = Code

abbrev pub options_of : Bool → ℕ → JudgeOptions
options_of is_text budget = record { form = rules_form is_text; budget = budget }

-- the bytes of a text over those that the buffer had, as far as there is room
abbrev pub copied : List ℕ → List ℕ → List ℕ
copied text old = if nat_le (length text) (length old) then text ++ drop (length text) old else take (length old) text

-- The status is that of an answer, of which the buffer has what there was room for, and `wants` is how long it is; or it is 3,
-- where memory ran out: then the buffer is as it was.
abbrev pub IsReturned : (Answer → Type 0) → ℕ → List ℕ → List ℕ → ℕ → Type 0
IsReturned Answers status old new wants =
    ((answer : Answer) × Answers answer × (status ≡ answer.1) × (new ≡ copied answer.0 old) × (wants ≡ length answer.0))
    ⊎ ((status ≡ 3) × (new ≡ old) × (wants ≡ 0))

-- the same of a code file: where there is none, the buffer is as it was
abbrev pub IsCode : Option (List ℕ) → List ℕ → List ℕ → ℕ → Type 0
IsCode None old new wants = (new ≡ old) × (wants ≡ 0)
IsCode (Some code) old new wants = (new ≡ copied code old) × (wants ≡ length code)

-- the answer of `compile`: its code file in one buffer, and its line in another
abbrev pub IsOfCompile : CompileAnswer → ℕ → List ℕ → List ℕ → ℕ → List ℕ → List ℕ → ℕ → Type 0
IsOfCompile answer status code_old code_new code_wants old new wants =
    (status ≡ answer.said.1) × IsCode answer.code code_old code_new code_wants × (new ≡ copied answer.said.0 old) × (wants ≡ length answer.said.0)

-- what is returned of a class model and a rule text, or that memory ran out
abbrev pub IsCompiled : List ℕ → List ℕ → ℕ → List ℕ → List ℕ → ℕ → List ℕ → List ℕ → ℕ → Type 0
IsCompiled model rules status code_old code_new code_wants old new wants =
    ((t : TextReading) × ReadsAs rules t × IsOfCompile (compile_answer model t) status code_old code_new code_wants old new wants)
    ⊎ ((status ≡ 3) × (code_new ≡ code_old) × (code_wants ≡ 0) × (new ≡ old) × (wants ≡ 0))
