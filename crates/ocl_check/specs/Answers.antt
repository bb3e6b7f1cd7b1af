-- How a command ends, and what it has read and written then.
use Rattle.std.specs.Prelude.{◌≡◌, ◌≤◌, ℕ, Bool, true, false, List, length, take, Option, Some, None, ⊤, codes}
use Rattle.std.specs.Io.KnownBytes.{Appends}
use Rattle.rule_report.specs.Sink.{IsFlushedOnce}
use Rattle.ocl_check.specs.declared.outcome.Outcome.{Outcome}
use Rattle.ocl_check.specs.declared.outcome.Outcome.TheVariants.{Status, Failed}
use Rattle.ocl_check.specs.declared.outcome.CommandFault.{CommandFault}
use Rattle.ocl_check.specs.declared.outcome.CommandFault.TheVariants.{OutOfMemory, Read, Write}
use Rattle.ocl_check.specs.declared.input.TheConstants.{MAX_INPUT}
use Rattle.ocl_check.specs.declared.input.InputFault.{InputFault}
use Rattle.ocl_check.specs.declared.input.InputFault.TheVariants as input
use Rattle.ocl_check.specs.Reply.{Answer}

-- ---- what is read

-- these are the bytes that a reader said it had left; one that doesn't say may have had any
abbrev pub MayHave : Option (List ℕ) → List ℕ → Type 0
MayHave None xs = ⊤
MayHave (Some ws) xs = xs ≡ ws

-- where a command ended with a status, its inputs are within the limit
abbrev pub IsWithin : Outcome → List ℕ → Type 0
IsWithin (Status s) xs = length xs ≤ MAX_INPUT
IsWithin (Failed fault) xs = ⊤

-- an input that a command read, or would have read, has this fact
abbrev pub ReadBy : Outcome → Option (List ℕ) → (List ℕ → Type 0) → Type 0
ReadBy outcome known Fact = (xs : List ℕ) × MayHave known xs × IsWithin outcome xs × Fact xs

-- no read of an input was made, so none has failed
abbrev pub IsUnread : Bool → ℕ → Type 0
IsUnread has_failed reads = (has_failed ≡ false) × (reads ≡ 0)

abbrev pub is_read : CommandFault → Bool
is_read OutOfMemory = false
is_read Read = true
is_read Write = false

-- the command failed for a read
abbrev pub fails_read : Outcome → Bool
fails_read (Status s) = false
fails_read (Failed fault) = is_read fault

-- ---- what is written

-- where memory runs out, nothing is written of a refusal's line, whose status is 2
abbrev pub IsCutBy : CommandFault → ℕ → ℕ → Type 0
IsCutBy OutOfMemory status n = status ≡ 2 → n ≡ 0
IsCutBy Read status n = ⊤
IsCutBy Write status n = ⊤

-- What a sink took, and how the command ended: the answer whole, or a prefix of its bytes, which is empty where memory
-- runs out and the answer is a refusal.
abbrev pub IsAnswered : Answer → Option (List ℕ) → Option (List ℕ) → Outcome → Type 0
IsAnswered answer old new (Status s) = Appends old new answer.0 × (s ≡ answer.1)
IsAnswered answer old new (Failed fault) = (n : ℕ) × Appends old new (take n answer.0) × IsCutBy fault answer.1 n

-- the same where several answers are right
abbrev pub IsAnsweredBy : (Answer → Type 0) → Option (List ℕ) → Option (List ℕ) → Outcome → Type 0
IsAnsweredBy Answers old new outcome = (answer : Answer) × Answers answer × IsAnswered answer old new outcome

abbrev pub is_write : CommandFault → Bool
is_write OutOfMemory = false
is_write Read = false
is_write Write = true

-- the sink has failed exactly where the command failed for it
abbrev pub fails_write : Outcome → Bool
fails_write (Status s) = false
fails_write (Failed fault) = is_write fault

-- how a sink is flushed: once, after the last byte, where a command ended with a status; not at all where memory or a read
-- failed
abbrev pub IsFlushedBy : {S : Type 0} → (S → ℕ) → (S → Bool) → Outcome → S → S → Type 0
IsFlushedBy flushes has_pending (Status s) old new = IsFlushedOnce flushes has_pending old new
IsFlushedBy flushes has_pending (Failed OutOfMemory) old new = flushes new ≡ flushes old
IsFlushedBy flushes has_pending (Failed Read) old new = flushes new ≡ flushes old
IsFlushedBy flushes has_pending (Failed Write) old new = ⊤

-- The sink is as it was where a read failed. Where memory ran out it may have taken a prefix of the answer.
abbrev pub KeepsUnread : {S : Type 0} → Outcome → S → S → Type 0
KeepsUnread (Status s) old new = ⊤
KeepsUnread (Failed OutOfMemory) old new = ⊤
KeepsUnread (Failed Read) old new = new ≡ old
KeepsUnread (Failed Write) old new = ⊤

-- The sink is as it was where memory or a read failed: the answer is put together whole before its first byte is written.
abbrev pub KeepsSink : {S : Type 0} → Outcome → S → S → Type 0
KeepsSink (Status s) old new = ⊤
KeepsSink (Failed OutOfMemory) old new = new ≡ old
KeepsSink (Failed Read) old new = new ≡ old
KeepsSink (Failed Write) old new = ⊤

-- ---- how a command ends

-- why a command fails where an input can't be had
abbrev pub input_failure : InputFault → CommandFault
input_failure input.Read = Read
input_failure input.OutOfMemory = OutOfMemory

-- the exit status
abbrev pub exit_status : Outcome → ℕ
exit_status (Status s) = s
exit_status (Failed fault) = 3

-- the line on standard error
abbrev pub failure_line : CommandFault → List ℕ
failure_line OutOfMemory = codes "failed memory"
failure_line Read = codes "failed read"
failure_line Write = codes "failed write"
