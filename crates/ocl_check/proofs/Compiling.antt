-- What compiling came to, and what is written of it.
use Rattle.std.proofs.Common.{◌≡◌, ℕ, Bool, true, false, List, Option, Some, None, Result, Ok, Err, IfOk, IsOk, refl, sym, ap, ◌∙◌, subst}
use Rattle.std.proofs.lemmas.Bool.{false≢true}
use Rattle.std.proofs.lemmas.Option.{none-some}
use Rattle.imkl_model.specs.ClassModel.{Model}
use Rattle.imkl_model.specs.declared.fault.ModelFault.{ModelFault}
use Rattle.rule_code.specs.Content.{Content}
use Rattle.rule_code.specs.WellFormed.{IsUnit}
use Rattle.rule_code.specs.Spelling.{spelling}
use Rattle.ocl_base.specs.Steps.{Fails}
use Rattle.ocl_pipeline.proofs.ForAbove.{not_refused}
use Rattle.ocl_check.specs.declared.outcome.CommandFault.{CommandFault}
use Rattle.ocl_check.specs.declared.outcome.CommandFault.TheVariants.{OutOfMemory, Read, Write}
use Rattle.ocl_check.specs.declared.outcome.Outcome.{Outcome}
use Rattle.ocl_check.specs.declared.outcome.Outcome.TheVariants.{Status, Failed}
use Rattle.ocl_check.specs.declared.commands.compile.Compiled.{Compiled}
use Rattle.ocl_check.specs.Answers.{is_write}
use Rattle.ocl_check.specs.Reply.{Answer, refused}
use Rattle.ocl_pipeline.specs.TextReading.{TextReading}
use Rattle.ocl_pipeline.specs.Inputs.{model_of}
use Rattle.ocl_pipeline.specs.CompiledRules.{CompiledRules, TextRefusal, InText, InTypes, InCode, compiled_rules, IsUnitOf}
use Rattle.ocl_pipeline.specs.declared.refusal.Refusal.{Refusal}
use Rattle.ocl_pipeline.specs.declared.refusal.Refusal.TheVariants as refusal
use Rattle.ocl_pipeline.specs.declared.stopped.Stopped.{Stopped}
use Rattle.ocl_pipeline.specs.declared.stopped.Stopped.TheVariants as stop
use Rattle.ocl_pipeline.specs.Stops.{stopped}
use Rattle.ocl_pipeline.specs.Steps.{refused_as, text_refusal, model_in, text_in}
use Rattle.ocl_check.specs.Compile.{CompileAnswer, nothing_compiled, compiled_code, compiled_answer, compile_model_answer, compile_answer, HasUnit, HasUnitFor, IsCodeWritten, IsOfUnit}
use Rattle.ocl_check.specs.CompileParts.{compiled_seen, is_ended, IsNothingFor}

-- one answer for another that is equal
pub seen_as : {E : Type 0} (result : Result Compiled E) (a b : CompileAnswer) → a ≡ b → IfOk result (λ c. compiled_seen c ≡ a) → IfOk result (λ c. compiled_seen c ≡ b)
seen_as (Ok c) a b same h = h ∙ same
seen_as (Err e) a b same h = tt

-- the code of a text's unit is what is answered of it
pub unit_seen : {E : Type 0} (result : Result Compiled E) (m : Model) (t : TextReading) (u : Content) → IsUnitOf m t u → IfOk result (λ c. compiled_seen c ≡ compiled_code u) → IfOk result (λ c. compiled_seen c ≡ compiled_answer (compiled_rules m t))
unit_seen result m t u unit h = seen_as result (compiled_code u) (compiled_answer (compiled_rules m t)) (sym (ap compiled_answer unit.1)) h

-- the unit of a text is one
pub unit_kept : {E : Type 0} (result : Result Compiled E) (m : Model) (t : TextReading) (u : Content) → IsUnitOf m t u → IsUnit u → IfOk result (λ c. HasUnit (compiled_rules m t))
unit_kept (Ok c) m t u unit formed = subst HasUnit (sym unit.1) formed
unit_kept (Err e) m t u unit formed = tt

-- what is answered without code has no unit
pub no_unit : (x : Result CompiledRules TextRefusal) (a : Answer) → nothing_compiled a ≡ compiled_answer x → HasUnit x
no_unit (Err refusal) a h = tt
no_unit (Ok c) a h = absurd (none-some (spelling c.unit) (ap (λ (z : CompileAnswer). z.code) h))

pub no_unit_for : (x : Result Model ModelFault) (t : TextReading) (a : Answer) → nothing_compiled a ≡ compile_model_answer x t → HasUnitFor x t
no_unit_for (Err e) t a h = tt
no_unit_for (Ok m) t a h = no_unit (compiled_rules m t) a h

-- what is compiled of what the pipeline gives
abbrev pub given_compiled : {A : Type 0} → (A → CompileAnswer) → Result A Refusal → CompileAnswer
given_compiled f (Ok x) = f x
given_compiled f (Err r) = nothing_compiled (refused r)

-- nothing, where the pipeline stopped
nothing_given : {A : Type 0} (why : Stopped) (given : Result A Refusal) (f : A → CompileAnswer) (seen : CompileAnswer) → Fails stopped why given → IsNothingFor why seen → seen ≡ given_compiled f given
nothing_given (stop.Refused r) given f seen h is = is ∙ sym (ap (given_compiled f) h)
nothing_given stop.OutOfMemory given f seen h is = absurd is

pub refusal_seen : {A E : Type 0} (result : Result Compiled E) (why : Stopped) (given : Result A Refusal) (f : A → CompileAnswer) → Fails stopped why given → IfOk result (λ c. IsNothingFor why (compiled_seen c))
    → IfOk result (λ c. compiled_seen c ≡ given_compiled f given)
refusal_seen (Ok c) why given f h is = nothing_given why given f (compiled_seen c) h is
refusal_seen (Err e) why given f h is = tt

-- a refusal goes with what an answer without code says
nothing_keeps : (why : Stopped) (seen answer : CompileAnswer) (K : Type 0) → ((a : Answer) → nothing_compiled a ≡ answer → K) → IsNothingFor why seen → seen ≡ answer → K
nothing_keeps (stop.Refused r) seen answer K kept is same = kept (refused r) (sym is ∙ same)
nothing_keeps stop.OutOfMemory seen answer K kept is same = absurd is

pub refusal_keeps : {E : Type 0} (result : Result Compiled E) (why : Stopped) (answer : CompileAnswer) (K : Type 0) → ((a : Answer) → nothing_compiled a ≡ answer → K)
    → IfOk result (λ c. IsNothingFor why (compiled_seen c)) → IfOk result (λ c. compiled_seen c ≡ answer) → IfOk result (λ c. K)
refusal_keeps (Ok c) why answer K kept is same = nothing_keeps why (compiled_seen c) answer K kept is same
refusal_keeps (Err e) why answer K kept is same = tt

-- what is compiled of a text, and of the class model before it
rules_given : (o : Result CompiledRules TextRefusal) → given_compiled (λ (c : CompiledRules). compiled_code c.unit) (refused_as text_refusal o) ≡ compiled_answer o
rules_given (Ok c) = refl
rules_given (Err (InText f)) = refl
rules_given (Err (InTypes f)) = refl
rules_given (Err (InCode l)) = refl

pub text_given : (m : Model) (t : TextReading) → given_compiled (λ (c : CompiledRules). compiled_code c.unit) (text_in m t) ≡ compiled_answer (compiled_rules m t)
text_given m t = rules_given (compiled_rules m t)

abbrev pub compiled_for : TextReading → Model → CompileAnswer
compiled_for t m = compiled_answer (compiled_rules m t)

model_given : (t : TextReading) (o : Result Model ModelFault) → given_compiled (compiled_for t) (refused_as refusal.Model o) ≡ compile_model_answer o t
model_given t (Ok m) = refl
model_given t (Err e) = refl

pub inputs_given : (t : TextReading) (model : List ℕ) → given_compiled (compiled_for t) (model_in model) ≡ compile_answer model t
inputs_given t model = model_given t (model_of model)

-- a class model that was read is the one described
pub model_is_read : (bytes : List ℕ) (m : Model) → model_in bytes ≡ Ok m → model_of bytes ≡ Ok m
model_is_read bytes m h = not_refused refusal.Model (model_of bytes) m h

-- where a command ends with a status, something was compiled, and its unit is one
pub of_unit : {E : Type 0} (o : Outcome) (result : Result Compiled E) (model : List ℕ) (t : TextReading) → (is_ended o ≡ true → IsOk result) → IfOk result (λ c. HasUnitFor (model_of model) t) → IsOfUnit o model t
of_unit (Status s) (Ok c) model t ended h = h
of_unit (Status s) (Err e) model t ended h = absurd (false≢true (ended refl))
of_unit (Failed fault) result model t ended h = tt

-- nothing is written where a command failed before it began
pub nothing_written : {S : Type 0} (contents : S → Option (List ℕ)) (has_failed : S → Bool) (code : Option (List ℕ)) (s : S) (fault : CommandFault) → is_write fault ≡ false → IsCodeWritten contents has_failed code s s (Failed fault)
nothing_written contents has_failed None s fault other = refl
nothing_written contents has_failed (Some code) s OutOfMemory other = refl
nothing_written contents has_failed (Some code) s Read other = refl
nothing_written contents has_failed (Some code) s Write other = absurd (false≢true (sym other))
