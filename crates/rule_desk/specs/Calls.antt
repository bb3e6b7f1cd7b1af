-- What each call of a desk promises, by the jobs before and after it.
use Rattle.std.specs.Prelude.{◌≡◌, ℕ, ◌+◌, ◌<◌, ◌≤◌, List, [], ◌∷◌, ◌++◌, length, Option, Some, None, Result, Ok, Err, slice_set}
use Rattle.imkl_population.specs.Population.{Population}
use Rattle.rule_cost.specs.Admission.{Admission}
use Rattle.rule_desk.specs.declared.job.JobReply.{JobReply}
use Rattle.rule_desk.specs.declared.job.JobReply.TheVariants.{Paused, Over}
use Rattle.rule_desk.specs.declared.fault.DeskFault.{DeskFault}
use Rattle.rule_desk.specs.declared.fault.DeskFault.TheVariants.{NoSuchJob, JobOver, OutOfMemory}
use Rattle.rule_desk.specs.Seen.{JobSeen, job_seen}
use Rattle.rule_desk.specs.Job.{total_cost, spent_after, IsWhole, lines_now}
use Rattle.rule_desk.specs.World.{Jobs, job_at}

-- a job gets the next number; refused, nothing changes
abbrev pub IsEntered : Jobs → Admission → Population → Result ℕ DeskFault → Jobs → Type 0
IsEntered old a p (Ok k) new = (k ≡ length old) × (new ≡ old ++ Some (job_seen a p 0) ∷ [])
IsEntered old a p (Err OutOfMemory) new = new ≡ old
IsEntered old a p (Err NoSuchJob) new = ⊥
IsEntered old a p (Err JobOver) new = ⊥

-- a grant of n to a job that isn't over, by what was spent before and is after it
abbrev pub Granted : {E : Type 0} → JobSeen → ℕ → Result JobReply E → JobSeen → Type 0
Granted j n (Ok Paused) i = (i.spent ≡ spent_after j n) × (j.spent + n < total_cost j)
Granted j n (Ok Over) i = (i.spent ≡ spent_after j n) × (total_cost j ≤ j.spent + n)
Granted j n (Err e) i = (j.spent ≤ i.spent) × (i.spent < j.spent + n) × (i.spent < total_cost j) × IsWhole i

-- the same code and population
pub record SameJob (j i : JobSeen) : Type 0 where
  pub admission : i.admission ≡ j.admission
  pub population : i.population ≡ j.population

abbrev pub IsJobGranted : JobSeen → ℕ → Result JobReply DeskFault → JobSeen → Type 0
IsJobGranted j n (Ok reply) i = (j.spent < total_cost j) × Granted {E = DeskFault} j n (Ok reply) i
IsJobGranted j n (Err OutOfMemory) i = (j.spent < total_cost j) × Granted {E = DeskFault} j n (Err OutOfMemory) i
IsJobGranted j n (Err JobOver) i = (j.spent ≡ total_cost j) × (i ≡ j)
IsJobGranted j n (Err NoSuchJob) i = ⊥

abbrev pub IsGrantedAt : Option JobSeen → ℕ → Result JobReply DeskFault → Option JobSeen → Type 0
IsGrantedAt None n r new = (r ≡ Err NoSuchJob) × (new ≡ None)
IsGrantedAt (Some j) n r None = ⊥
IsGrantedAt (Some j) n r (Some i) = SameJob j i × IsJobGranted j n r i

-- the job of that number gets the grant, and the others stay
abbrev pub IsGranted : Jobs → ℕ → ℕ → Result JobReply DeskFault → Jobs → Type 0
IsGranted old k n r new = (q : Option JobSeen) × (new ≡ slice_set old k q) × IsGrantedAt (job_at old k) n r q

abbrev pub IsGivenUp : Option JobSeen → Result (Unit {0}) DeskFault → Type 0
IsGivenUp None r = r ≡ Err NoSuchJob
IsGivenUp (Some j) r = r ≡ Ok tt

-- the job of that number is gone, and the others stay
abbrev pub IsWithdrawn : Jobs → ℕ → Result (Unit {0}) DeskFault → Jobs → Type 0
IsWithdrawn old k r new = (new ≡ slice_set old k None) × IsGivenUp (job_at old k) r

-- a number that is read of a job, if it is there
abbrev pub IsRead : (JobSeen → ℕ) → Option JobSeen → Result ℕ DeskFault → Type 0
IsRead f None r = r ≡ Err NoSuchJob
IsRead f (Some j) r = r ≡ Ok (f j)

-- what is spent of a job is at most this
abbrev pub IsSpentWithin : Option JobSeen → ℕ → Type 0
IsSpentWithin None n = ⊥
IsSpentWithin (Some j) n = j.spent ≤ n

-- the fault where there is no such job
abbrev pub IsNoJob : Option JobSeen → DeskFault → Type 0
IsNoJob q e = (q ≡ None) × (e ≡ NoSuchJob)

-- these are the lines of a job
abbrev pub HasLines : Option JobSeen → List ℕ → Type 0
HasLines None bytes = ⊥
HasLines (Some j) bytes = bytes ≡ lines_now j
