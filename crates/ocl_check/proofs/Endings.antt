-- How a part of a command ends.
use Rattle.std.proofs.Common.{◌≡◌, ◌≤◌, ℕ, Bool, true, false, List, length, Option, refl, ap, ◌∙◌, subst}
use Rattle.std.proofs.KnownBytes.{Appends-nil}
use Rattle.ocl_check.specs.declared.input.InputFault.{InputFault}
use Rattle.ocl_check.specs.declared.input.InputFault.TheVariants as input
use Rattle.ocl_check.specs.declared.outcome.CommandFault.{CommandFault}
use Rattle.ocl_check.specs.declared.outcome.CommandFault.TheVariants.{OutOfMemory, Read, Write}
use Rattle.ocl_check.specs.declared.outcome.Outcome.{Outcome}
use Rattle.ocl_check.specs.declared.outcome.Outcome.TheVariants.{Status, Failed}
use Rattle.ocl_check.specs.Reply.{Answer}
use Rattle.ocl_check.specs.declared.input.TheConstants.{MAX_INPUT}
use Rattle.ocl_check.specs.Answers.{IsAnswered, IsCutBy, IsFlushedBy, IsWithin, KeepsSink, KeepsUnread, input_failure, is_write}
use Rattle.ocl_check.specs.Ending.{IsEnding, KeepsBy}

-- one answer for another that is equal
pub ending_as : {S : Type 0} {contents : S → Option (List ℕ)} {has_failed : S → Bool} {flushes : S → ℕ} {has_pending : S → Bool} {is_whole : Bool} {a b : Answer} {old new : S} {o : Outcome}
    → a ≡ b → IsEnding contents has_failed flushes has_pending is_whole a old o new → IsEnding contents has_failed flushes has_pending is_whole b old o new
ending_as {S} {contents} {has_failed} {flushes} {has_pending} {is_whole} {a} {b} {old} {new} {o} same h = subst (λ (x : Answer). IsEnding contents has_failed flushes has_pending is_whole x old o new) same h

-- what holds of two inputs holds of equal ones
pub two_known : (P : List ℕ → List ℕ → Type 0) (a b x y : List ℕ) → a ≡ x → b ≡ y → P a b → P x y
two_known P a b x y ax by h = subst (P x) by (subst (λ (l : List ℕ). P l b) ax h)

-- equal inputs are answered alike
pub two_alike : (answer : List ℕ → List ℕ → Answer) (a b x y : List ℕ) → a ≡ x → b ≡ y → answer a b ≡ answer x y
two_alike answer a b x y ax by = ap (λ (l : List ℕ). answer l b) ax ∙ ap (answer x) by

pub three_alike : (answer : List ℕ → List ℕ → List ℕ → Answer) (a b c x y z : List ℕ) → a ≡ x → b ≡ y → c ≡ z → answer a b c ≡ answer x y z
three_alike answer a b c x y z ax by cz = ap (λ (l : List ℕ). answer l b c) ax ∙ two_alike (answer x) b c y z by cz

pub four_alike : (answer : List ℕ → List ℕ → List ℕ → List ℕ → Answer) (a b c d x y z w : List ℕ) → a ≡ x → b ≡ y → c ≡ z → d ≡ w → answer a b c d ≡ answer x y z w
four_alike answer a b c d x y z w ax by cz dw = ap (λ (l : List ℕ). answer l b c d) ax ∙ three_alike (answer x) b c d y z w by cz dw

-- an input within the limit is within it however the command ends
pub within : (o : Outcome) (xs : List ℕ) → length xs ≤ MAX_INPUT → IsWithin o xs
within (Status s) xs h = h
within (Failed fault) xs h = tt

-- ---- what is written

-- nothing of an answer is written where a command failed before its first byte
cut_at_once : (c : CommandFault) (status : ℕ) → IsCutBy c status 0
cut_at_once OutOfMemory status = λ refused. refl
cut_at_once Read status = tt
cut_at_once Write status = tt

pub nothing_said : (a : Answer) (c : CommandFault) (o : Option (List ℕ)) → IsAnswered a o o (Failed c)
nothing_said a c o = (0, Appends-nil o, cut_at_once c a.1)

-- nor is there a flush
pub unflushed : {S : Type 0} (flushes : S → ℕ) (has_pending : S → Bool) (c : CommandFault) (s : S) → IsFlushedBy flushes has_pending (Failed c) s s
unflushed flushes has_pending OutOfMemory s = refl
unflushed flushes has_pending Read s = refl
unflushed flushes has_pending Write s = tt

-- ---- what stays of a sink

-- an answer that is put together whole
pub kept_whole : {S : Type 0} (o : Outcome) (old new : S) → KeepsBy true o old new → KeepsSink o old new
kept_whole (Status s) old new h = tt
kept_whole (Failed OutOfMemory) old new h = h refl
kept_whole (Failed Read) old new h = h
kept_whole (Failed Write) old new h = tt

-- any answer
pub kept_unread : {S : Type 0} (is_whole : Bool) (o : Outcome) (old new : S) → KeepsBy is_whole o old new → KeepsUnread o old new
kept_unread is_whole (Status s) old new h = tt
kept_unread is_whole (Failed OutOfMemory) old new h = tt
kept_unread is_whole (Failed Read) old new h = h
kept_unread is_whole (Failed Write) old new h = tt

-- a command that failed before its first byte keeps its sink
pub kept_untouched : {S : Type 0} (is_whole : Bool) (c : CommandFault) (s : S) → KeepsBy is_whole (Failed c) s s
kept_untouched is_whole OutOfMemory s = λ whole. refl
kept_untouched is_whole Read s = refl
kept_untouched is_whole Write s = tt

pub untouched : {S : Type 0} (c : CommandFault) (s : S) → KeepsSink (Failed c) s s
untouched OutOfMemory s = refl
untouched Read s = refl
untouched Write s = tt

-- ---- inputs that can't be had

input_no_write : (f : InputFault) → is_write (input_failure f) ≡ false
input_no_write input.Read = refl
input_no_write input.OutOfMemory = refl

-- a command that fails for an input doesn't fail for a write
pub no_write : (c : CommandFault) (f : InputFault) → c ≡ input_failure f → is_write c ≡ false
no_write c f is = ap is_write is ∙ input_no_write f
