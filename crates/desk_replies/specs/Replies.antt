-- What a desk replies to the calls of a script: the answers of its world, line by line. Each job of a script is the report
-- on one population by one admission.
use Rattle.std.specs.Prelude.{ℕ, List, [], ◌∷◌, ◌++◌, length, codes, Option, Some, None}
use Rattle.std.specs.Fmt.{decimal}
use Rattle.imkl_population.specs.Population.{Population}
use Rattle.rule_cost.specs.Admission.{Admission}
use Rattle.rule_desk.specs.declared.fault.DeskFault.{DeskFault}
use Rattle.rule_desk.specs.declared.fault.DeskFault.TheVariants.{NoSuchJob, JobOver}
use Rattle.rule_desk.specs.Faults.{desk_fault_number}
use Rattle.rule_desk.specs.Seen.{JobSeen}
use Rattle.rule_desk.specs.Job.{lines_now}
use Rattle.rule_desk.specs.World.{Event, DeskAnswer, Jobs, job_at, next, answer}
use Rattle.rule_desk.specs.World.Own.{Given, Left}
use Rattle.rule_desk.specs.World.Event.{Entered, To}
use Rattle.rule_desk.specs.World.DeskAnswer.{Number, PausedAt, OverAt, IsWithdrawn, NoJob, WasOver, NoMemory}
use Rattle.desk_script.specs.declared.call.Call.{Call}
use Rattle.desk_script.specs.declared.call.Call.TheVariants.{Enter, Grant, Withdraw, Lines}

-- ---- lines

-- the line of a call that is refused, by the fault's number
abbrev pub refused_desk : DeskFault → List ℕ
refused_desk e = codes "refused desk " ++ (decimal (desk_fault_number e) ++ 10 ∷ [])

-- the line of an answer to a call on the job of this number; where memory runs out the run of the script ends
abbrev pub answer_line : ℕ → DeskAnswer → List ℕ
answer_line k (Number n) = codes "job " ++ (decimal n ++ 10 ∷ [])
answer_line k (PausedAt s) = codes "paused " ++ (decimal k ++ (32 ∷ (decimal s ++ 10 ∷ [])))
answer_line k (OverAt s) = codes "over " ++ (decimal k ++ (32 ∷ (decimal s ++ 10 ∷ [])))
answer_line k IsWithdrawn = codes "withdrawn " ++ (decimal k ++ 10 ∷ [])
answer_line k NoJob = refused_desk NoSuchJob
answer_line k WasOver = refused_desk JobOver
answer_line k NoMemory = []

-- the lines of a job's report so far, if there is one
abbrev pub lines_or_refusal : Option JobSeen → List ℕ
lines_or_refusal None = refused_desk NoSuchJob
lines_or_refusal (Some j) = lines_now j

-- ---- calls

-- the event that a call is; `lines` only looks
abbrev pub event_of : Admission → Population → Call → Option Event
event_of a p Enter = Some (Entered a p)
event_of a p (Grant k n) = Some (To k (Given n))
event_of a p (Withdraw k) = Some (To k Left)
event_of a p (Lines k) = None

-- the jobs after a call
abbrev pub next_jobs : Option Event → Jobs → Jobs
next_jobs None d = d
next_jobs (Some e) d = next e d

-- what is replied to a call
abbrev pub reply_to : Admission → Population → Call → Jobs → List ℕ
reply_to a p Enter d = answer_line (length d) (answer (Entered a p) d)
reply_to a p (Grant k n) d = answer_line k (answer (To k (Given n)) d)
reply_to a p (Withdraw k) d = answer_line k (answer (To k Left) d)
reply_to a p (Lines k) d = lines_or_refusal (job_at d k)

-- ---- scripts

-- the jobs after some calls
abbrev pub jobs_after : Admission → Population → List Call → Jobs → Jobs
jobs_after a p [] d = d
jobs_after a p (c ∷ cs) d = jobs_after a p cs (next_jobs (event_of a p c) d)

-- the replies to some calls, one after another
abbrev pub replies_from : Admission → Population → List Call → Jobs → List ℕ
replies_from a p [] d = []
replies_from a p (c ∷ cs) d = reply_to a p c d ++ replies_from a p cs (next_jobs (event_of a p c) d)

-- the replies to a script, on a desk without jobs
abbrev pub script_replies : Admission → Population → List Call → List ℕ
script_replies a p cs = replies_from a p cs []
