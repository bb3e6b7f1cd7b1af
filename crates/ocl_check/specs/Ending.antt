-- What a part of a command does to the sink before it ends.
use Rattle.std.specs.Prelude.{◌≡◌, ◌≤◌, ℕ, Bool, true, false, List, Option, length, ⊤}
use Rattle.ocl_check.specs.declared.outcome.Outcome.{Outcome}
use Rattle.ocl_check.specs.declared.outcome.Outcome.TheVariants.{Status, Failed}
use Rattle.ocl_check.specs.declared.outcome.CommandFault.TheVariants.{OutOfMemory, Read, Write}
use Rattle.ocl_check.specs.declared.input.TheConstants.{MAX_INPUT}
use Rattle.ocl_check.specs.Reply.{Answer}
use Rattle.ocl_check.specs.Answers.{IsAnswered, IsFlushedBy, MayHave, fails_read, fails_write}

-- The sink is as it was where a read failed, and where memory ran out if the answer is put together whole before its
-- first byte is written.
abbrev pub KeepsBy : {S : Type 0} → Bool → Outcome → S → S → Type 0
KeepsBy is_whole (Status s) old new = ⊤
KeepsBy is_whole (Failed OutOfMemory) old new = is_whole ≡ true → new ≡ old
KeepsBy is_whole (Failed Read) old new = new ≡ old
KeepsBy is_whole (Failed Write) old new = ⊤

-- the answer went to the sink, as far as the outcome says, and nothing more was read
pub record IsEnding {S : Type 0} (contents : S → Option (List ℕ)) (has_failed : S → Bool) (flushes : S → ℕ) (has_pending : S → Bool) (is_whole : Bool) (answer : Answer) (old : S) (outcome : Outcome) (new : S) : Type 0 where
  pub answered : IsAnswered answer (contents old) (contents new) outcome
  pub sink : has_failed new ≡ fails_write outcome
  pub kept : KeepsBy is_whole outcome old new
  pub flushed : IsFlushedBy flushes has_pending outcome old new
  pub read : fails_read outcome ≡ false

-- these bytes were read whole, within the limit
abbrev pub IsInput : Option (List ℕ) → List ℕ → Type 0
IsInput known bytes = MayHave known bytes × (length bytes ≤ MAX_INPUT)
