-- Each call of a desk is an event of its world.
use Rattle.std.specs.Prelude.{◌≡◌, ℕ, Option, Some, None, Result, Ok, Err}
use Rattle.imkl_population.specs.Population.{Population}
use Rattle.rule_cost.specs.Admission.{Admission, Fits, IsAdmission}
use Rattle.rule_desk.specs.declared.job.JobReply.{JobReply}
use Rattle.rule_desk.specs.declared.job.JobReply.TheVariants.{Paused, Over}
use Rattle.rule_desk.specs.declared.fault.DeskFault.{DeskFault}
use Rattle.rule_desk.specs.declared.fault.DeskFault.TheVariants.{NoSuchJob, JobOver, OutOfMemory}
use Rattle.rule_desk.specs.Seen.{JobSeen}
use Rattle.rule_desk.specs.World as world
use Rattle.rule_desk.specs.World.{Own, Event, DeskAnswer, Jobs, job_at, next, answer, MayCome}
use Rattle.rule_desk.specs.World.Own.{Given, GivenRefused, Left}
use Rattle.rule_desk.specs.World.Event.{Entered, EnteredRefused, To}
use Rattle.rule_desk.specs.World.DeskAnswer.{Number, PausedAt, OverAt, NoJob, WasOver, NoMemory}
use Rattle.rule_desk.specs.Calls.{IsEntered, IsGranted, IsWithdrawn}

abbrev pub fault_answer : DeskFault → DeskAnswer
fault_answer NoSuchJob = NoJob
fault_answer JobOver = WasOver
fault_answer OutOfMemory = NoMemory

abbrev pub enter_answer : Result ℕ DeskFault → DeskAnswer
enter_answer (Ok k) = Number k
enter_answer (Err e) = fault_answer e

-- what is spent of a job, 0 where there is none
abbrev pub spent_of : Option JobSeen → ℕ
spent_of None = 0
spent_of (Some j) = j.spent

-- with what is spent after the call
abbrev pub grant_answer : Result JobReply DeskFault → Option JobSeen → DeskAnswer
grant_answer (Ok Paused) q = PausedAt (spent_of q)
grant_answer (Ok Over) q = OverAt (spent_of q)
grant_answer (Err e) q = fault_answer e

abbrev pub withdraw_answer : Result (Unit {0}) DeskFault → DeskAnswer
withdraw_answer (Ok u) = world.DeskAnswer.IsWithdrawn
withdraw_answer (Err e) = fault_answer e

-- an event that may come takes the jobs from one state to the other, and is answered so
pub record IsEvent (old : Jobs) (e : Event) (a : DeskAnswer) (new : Jobs) : Type 0 where
  pub may_come : MayCome e old
  pub moves : new ≡ next e old
  pub answered : a ≡ answer e old

abbrev pub IsGive : ℕ → Own → Type 0
IsGive n (Given m) = m ≡ n
IsGive n (GivenRefused m left) = m ≡ n
IsGive n Left = ⊥

abbrev pub IsEnterEvent : Admission → Population → Event → Type 0
IsEnterEvent a p (Entered b q) = (b ≡ a) × (q ≡ p)
IsEnterEvent a p (EnteredRefused b q) = (b ≡ a) × (q ≡ p)
IsEnterEvent a p (To k o) = ⊥

-- entering is an entry, refused or not
abbrev pub EntersAreEvents : Type 0
EntersAreEvents =
    (old new : Jobs) (a : Admission) (p : Population) (r : Result ℕ DeskFault)
    → IsAdmission a → Fits a p → IsEntered old a p r new
    → (e : Event) × IsEnterEvent a p e × IsEvent old e (enter_answer r) new

-- a grant is a grant to that job alone, refused or not
abbrev pub GrantsAreEvents : Type 0
GrantsAreEvents =
    (old new : Jobs) (k n : ℕ) (r : Result JobReply DeskFault)
    → IsGranted old k n r new
    → (o : Own) × IsGive n o × IsEvent old (To k o) (grant_answer r (job_at new k)) new

-- a withdrawal is one
abbrev pub WithdrawalsAreEvents : Type 0
WithdrawalsAreEvents =
    (old new : Jobs) (k : ℕ) (r : Result (Unit {0}) DeskFault)
    → IsWithdrawn old k r new
    → IsEvent old (To k Left) (withdraw_answer r) new
