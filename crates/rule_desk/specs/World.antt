-- The world of a desk: a list of events, and what each does to the jobs.
use Rattle.std.specs.Prelude.{ℕ, ◌+◌, ◌<◌, ◌≤◌, ◌==◌, nat_le, List, [], ◌∷◌, ◌++◌, length, Option, Some, None, slice_index_or, slice_set, if◌then◌else◌}
use Rattle.imkl_population.specs.Population.{Population}
use Rattle.rule_cost.specs.Admission.{Admission, Fits, IsAdmission}
use Rattle.rule_desk.specs.Seen.{JobSeen, job_seen}
use Rattle.rule_desk.specs.Job.{total_cost, spent_after, IsWhole}

-- what is done to one job: a grant; a grant refused for memory, with the spent that it left; a withdrawal
pub data Own : Type 0 where
  Given : ℕ → Own
  GivenRefused : ℕ → ℕ → Own
  Left : Own

-- an entry; an entry refused for memory; something that is done to the job of a number
pub data Event : Type 0 where
  Entered : Admission → Population → Event
  EnteredRefused : Admission → Population → Event
  To : ℕ → Own → Event

-- what is answered
pub data DeskAnswer : Type 0 where
  Number : ℕ → DeskAnswer
  PausedAt : ℕ → DeskAnswer
  OverAt : ℕ → DeskAnswer
  IsWithdrawn : DeskAnswer
  NoJob : DeskAnswer
  WasOver : DeskAnswer
  NoMemory : DeskAnswer

-- ---- one job alone

abbrev pub goes : Own → Option JobSeen → Option JobSeen
goes o None = None
goes (Given n) (Some j) = Some (job_seen j.admission j.population (spent_after j n))
goes (GivenRefused n left) (Some j) = Some (job_seen j.admission j.population left)
goes Left (Some j) = None

abbrev pub says : Own → Option JobSeen → DeskAnswer
says o None = NoJob
says (Given n) (Some j) =
    if nat_le (total_cost j) j.spent then WasOver
    else (if nat_le (total_cost j) (j.spent + n) then OverAt (spent_after j n) else PausedAt (spent_after j n))
says (GivenRefused n left) (Some j) = NoMemory
says Left (Some j) = IsWithdrawn

-- what a refused grant may leave
abbrev pub MayLeave : Own → Option JobSeen → Type 0
MayLeave (GivenRefused n left) (Some j) = (j.spent ≤ left) × (left < j.spent + n) × (left < total_cost j) × IsWhole (job_seen j.admission j.population left)
MayLeave (GivenRefused n left) None = ⊥
MayLeave (Given n) q = Unit {0}
MayLeave Left q = Unit {0}

-- one after another
abbrev pub goes_on : List Own → Option JobSeen → Option JobSeen
goes_on [] q = q
goes_on (o ∷ os) q = goes_on os (goes o q)

abbrev pub says_on : List Own → Option JobSeen → List DeskAnswer
says_on [] q = []
says_on (o ∷ os) q = says o q ∷ says_on os (goes o q)

-- ---- the desk

-- its jobs by their numbers, with a gap for each that was withdrawn; the length is the next number
abbrev pub Jobs : Type 0
Jobs = List (Option JobSeen)

abbrev pub job_at : Jobs → ℕ → Option JobSeen
job_at d k = slice_index_or d k None

abbrev pub next : Event → Jobs → Jobs
next (Entered a p) d = d ++ Some (job_seen a p 0) ∷ []
next (EnteredRefused a p) d = d
next (To k o) d = slice_set d k (goes o (job_at d k))

abbrev pub answer : Event → Jobs → DeskAnswer
answer (Entered a p) d = Number (length d)
answer (EnteredRefused a p) d = NoMemory
answer (To k o) d = says o (job_at d k)

abbrev pub MayCome : Event → Jobs → Type 0
MayCome (Entered a p) d = IsAdmission a × Fits a p
MayCome (EnteredRefused a p) d = IsAdmission a × Fits a p
MayCome (To k o) d = MayLeave o (job_at d k)

abbrev pub after : List Event → Jobs → Jobs
after [] d = d
after (e ∷ es) d = after es (next e d)

abbrev pub answers : List Event → Jobs → List DeskAnswer
answers [] d = []
answers (e ∷ es) d = answer e d ∷ answers es (next e d)

-- each event may come where it does
abbrev pub IsWorld : List Event → Jobs → Type 0
IsWorld [] d = Unit {0}
IsWorld (e ∷ es) d = MayCome e d × IsWorld es (next e d)

-- ---- the events of one job, and the answers to them

abbrev pub own : ℕ → List Event → List Own
own k [] = []
own k (Entered a p ∷ es) = own k es
own k (EnteredRefused a p ∷ es) = own k es
own k (To i o ∷ es) = if i == k then o ∷ own k es else own k es

abbrev pub answers_to : ℕ → List Event → Jobs → List DeskAnswer
answers_to k [] d = []
answers_to k (Entered a p ∷ es) d = answers_to k es (next (Entered a p) d)
answers_to k (EnteredRefused a p ∷ es) d = answers_to k es d
answers_to k (To i o ∷ es) d =
    if i == k then says o (job_at d i) ∷ answers_to k es (next (To i o) d) else answers_to k es (next (To i o) d)

-- how many jobs entered
abbrev pub entries : List Event → ℕ
entries [] = 0
entries (Entered a p ∷ es) = 1 + entries es
entries (EnteredRefused a p ∷ es) = entries es
entries (To k o ∷ es) = entries es
