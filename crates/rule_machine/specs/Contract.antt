-- What the calls of a machine promise.
use Rattle.std.specs.Prelude.{◌≡◌, ℕ, [], length, vec_capacity, suc, ◌+◌, ◌-◌, ◌^◌, ◌<◌, ◌≤◌, min, Some, None, Result, Ok, Err}
use Rattle.ocl_base.specs.declared.memory.OutOfMemory.{OutOfMemory}
use Rattle.rule_values.specs.declared.verdict.Verdict.{Verdict}
use Rattle.rule_machine.specs.declared.progress.Progress.{Progress}
use Rattle.rule_machine.specs.declared.progress.Progress.TheVariants.{Paused, Done}
use Rattle.rule_machine.specs.Machine.{Setting, setting_of, Configuration, run, start}
use Rattle.rule_machine.specs.Charges.{work_of}
use Rattle.rule_machine.specs.Outcome.{outcome}
use Rattle.rule_machine.specs.Laws.{tree_of_rule, rule_bound}
use Rattle.rule_machine.specs.Seen.{Seen, Represents}
use Rattle.rule_machine.specs.Shown.{HasRoomForRulesAlone}
use Rattle.rule_machine.specs.declared.spare.TheConstants.{MAX_SPARE}

-- the setting of a rule, and the configuration where its runs begin
abbrev pub setting_at : Seen → ℕ → Setting
setting_at m r = setting_of m.unit m.population r

abbrev pub beginning : Seen → ℕ → ℕ → Configuration
beginning m r o = start (tree_of_rule m.unit r) o

-- a new machine's stacks have no more room than the deepest rule wants, as the verifier computes its depths, and its pool
-- has room for no more than the limit
pub record HasLimitedRoom (m : Seen) : Type 0 where
  pub stacks : HasRoomForRulesAlone m.population.model m.unit (length m.unit.rules) m.state
  pub pool : vec_capacity m.state.pool ≤ MAX_SPARE

-- the same unit and population
pub record SameTask (old new : Seen) : Type 0 where
  pub unit : new.unit ≡ old.unit
  pub population : new.population ≡ old.population

-- from the configuration c, where the work was k, the machine has come n steps further, to d; the work, which is what
-- the steps are charged (work_of), stays within the rule's bound
pub record Further (old : Seen) (r o : ℕ) (c : Configuration) (k n : ℕ) (d : Configuration) (new : Seen) : Type 0 where
  pub ran : run (setting_at old r) n c ≡ Some d
  pub stands : Represents new r o d (k + work_of (setting_at old r) n c)
  pub within : k + work_of (setting_at old r) n c ≤ rule_bound old.unit old.population r

-- it stands in the middle of a run, or at its end
abbrev pub IsStarted : Seen → Type 0
IsStarted m = (r o : ℕ) × (c : Configuration) × (k : ℕ) × Represents m r o c k

-- it stands before the first step of a rule for an object
abbrev pub IsBegun : Seen → ℕ → ℕ → Seen → Type 0
IsBegun old r o new = Represents new r o (beginning old r o) 0

-- no element that an earlier run gathered is kept
abbrev pub KeepsNothing : Seen → Type 0
KeepsNothing m = m.state.pool.items ≡ []

-- as many steps are made as the grant g pays for (the argument `grant` of `run`), and the end isn't reached
abbrev pub IsPaused : Seen → ℕ → Seen → Type 0
IsPaused old g new =
    (r o : ℕ) (c : Configuration) (k : ℕ) → Represents old r o c k
    → (n : ℕ) × (d : Configuration) × (outcome d ≡ None) × (work_of (setting_at old r) n c ≤ g) × (g < work_of (setting_at old r) (suc n) c)
    × Further old r o c k n d new

-- the end is reached with this verdict, for no more work than the grant
abbrev pub IsDone : Seen → ℕ → Verdict → Seen → Type 0
IsDone old g v new =
    (r o : ℕ) (c : Configuration) (k : ℕ) → Represents old r o c k
    → (n : ℕ) × (d : Configuration) × (outcome d ≡ Some v) × (work_of (setting_at old r) n c ≤ g) × Further old r o c k n d new

-- the machine stands before a step that the grant pays for
abbrev pub IsRefused : Seen → ℕ → Seen → Type 0
IsRefused old g new =
    (r o : ℕ) (c : Configuration) (k : ℕ) → Represents old r o c k
    → (n : ℕ) × (d : Configuration) × (outcome d ≡ None) × (work_of (setting_at old r) (suc n) c ≤ g) × Further old r o c k n d new

abbrev pub Ran : Seen → ℕ → Result Progress OutOfMemory → Seen → Type 0
Ran old g (Ok Paused) new = IsPaused old g new
Ran old g (Ok (Done v)) new = IsDone old g v new
Ran old g (Err e) new = IsRefused old g new

-- a whole run of a rule for an object: its verdict; or the machine stands before a step of that run
abbrev pub Judged : Seen → ℕ → ℕ → Result Verdict OutOfMemory → Seen → Type 0
Judged old r o (Ok v) new =
    (n : ℕ) × (d : Configuration) × (outcome d ≡ Some v) × Further old r o (beginning old r o) 0 n d new
Judged old r o (Err e) new =
    (n : ℕ) × (d : Configuration) × (outcome d ≡ None) × Further old r o (beginning old r o) 0 n d new

-- the work since the start, at most 2^64-1
abbrev pub IsCount : Seen → ℕ → Type 0
IsCount m n = (r o : ℕ) (c : Configuration) (k : ℕ) → Represents m r o c k → n ≡ min k (2 ^ 64 - 1)
