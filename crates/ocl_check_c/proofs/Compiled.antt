-- What was put into the caller's two buffers is the answer of `compile`.
use Rattle.std.proofs.Common.{rules, ◌≡◌, inl, inr, ◌∙◌, sym, subst, ap, ℕ, Bool, List, [], length, Option, Some, None}
use Rattle.std.specs.Io.KnownBytes.{Appends}
use Rattle.ocl_check.specs.declared.outcome.Outcome.{Outcome}
use Rattle.ocl_check.specs.declared.outcome.Outcome.TheVariants.{Status, Failed}
use Rattle.ocl_check.specs.Answers.{IsAnswered}
use Rattle.ocl_check.specs.Compile.{compile_answer, IsOfUnit, IsCodeWritten}
use Rattle.ocl_pipeline.specs.TextReading.{TextReading, ReadsAs}
use Rattle.ocl_check_c.specs.Buffers.{copied, IsCode, IsCompiled}
use Rattle.ocl_check_c.specs.Puts.{IsPut}

abbrev bytes_of : Option (List ℕ) → List ℕ
bytes_of None = []
bytes_of (Some bytes) = bytes

-- no bytes leave a buffer as it was
nothing_copied : (old : List ℕ) → copied [] old ≡ old
nothing_copied old = search rules

-- a sink that had no bytes has those of the code file; where there is none, it has none
module _ {S : Type 0} (contents : S → Option (List ℕ)) (has_failed : S → Bool) (from to : S) (file : List ℕ) (empty : contents from ≡ Some []) (whole : contents to ≡ Some file) where
  file_of : (code : Option (List ℕ)) (s : ℕ) → IsCodeWritten contents has_failed code from to (Status s) → file ≡ bytes_of code
  file_of None s same = ap bytes_of (sym whole ∙ (ap contents same ∙ empty))
  file_of (Some code) s adds =
      subst (λ (had : Option (List ℕ)). Appends had (Some file) code) empty (subst (λ (has : Option (List ℕ)). Appends (contents from) has code) whole adds)

  code_of : (code : Option (List ℕ)) (s : ℕ) (old new : List ℕ) (wants : ℕ)
      → IsCodeWritten contents has_failed code from to (Status s) → new ≡ copied file old → wants ≡ length file → IsCode code old new wants
  code_of None s old new wants written is long =
      (is ∙ (ap (λ (bytes : List ℕ). copied bytes old) (file_of None s written) ∙ nothing_copied old), long ∙ ap (λ (bytes : List ℕ). length bytes) (file_of None s written))
  code_of (Some code) s old new wants written is long =
      (is ∙ ap (λ (bytes : List ℕ). copied bytes old) (file_of (Some code) s written), long ∙ ap (λ (bytes : List ℕ). length bytes) (file_of (Some code) s written))

pub compiled : {S : Type 0} (contents : S → Option (List ℕ)) (has_failed : S → Bool) (from to : S) (had has : Option (List ℕ)) (model rules : List ℕ) (outcome : Outcome) (first status : ℕ) (code_old code_new : List ℕ) (code_wants : ℕ) (old new : List ℕ) (wants : ℕ) (file reply : List ℕ)
    → ((t : TextReading) × ReadsAs rules t × IsOfUnit outcome model t × IsCodeWritten contents has_failed (compile_answer model t).code from to outcome × IsAnswered (compile_answer model t).said had has outcome)
    → IsPut outcome file first code_old code_new code_wants → IsPut outcome reply status old new wants
    → contents from ≡ Some [] → contents to ≡ Some file → had ≡ Some [] → has ≡ Some reply
    → IsCompiled model rules status code_old code_new code_wants old new wants
compiled contents has_failed from to had has model rules (Status s) first status code_old code_new code_wants old new wants file reply (t, reads, unit, written, answered) code put empty whole begins ends =
    let said = subst (λ (bytes : Option (List ℕ)). IsAnswered (compile_answer model t).said bytes (Some reply) (Status s)) begins
    (subst (λ (bytes : Option (List ℕ)). IsAnswered (compile_answer model t).said had bytes (Status s)) ends answered) in
    inl (t, reads, (put.0 ∙ said.1, code_of contents has_failed from to file empty whole (compile_answer model t).code s code_old code_new code_wants written code.1 code.2, put.1 ∙ ap (λ (bytes : List ℕ). copied bytes old) said.0, put.2 ∙ ap (λ (bytes : List ℕ). length bytes) said.0))
compiled contents has_failed from to had has model rules (Failed fault) first status code_old code_new code_wants old new wants file reply answered code put empty whole begins ends =
    inr (put.0, code.1, code.2, put.1, put.2)
