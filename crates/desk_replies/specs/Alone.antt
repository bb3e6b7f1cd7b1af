-- What holds of every script: its jobs are those of its events, each as if alone.
use Rattle.std.specs.Prelude.{◌≡◌, ℕ, ◌+◌, ◌==◌, List, [], ◌∷◌, ◌++◌, Option, Some, None, if◌then◌else◌}
use Rattle.imkl_population.specs.Population.{Population}
use Rattle.rule_cost.specs.Admission.{Admission, Fits, IsAdmission}
use Rattle.rule_desk.specs.Seen.{JobSeen, job_seen}
use Rattle.rule_desk.specs.World.{Own, Event, Jobs, goes_on, says, after, IsWorld}
use Rattle.rule_desk.specs.World.Own.{Given, Left}
use Rattle.desk_script.specs.declared.call.Call.{Call}
use Rattle.desk_script.specs.declared.call.Call.TheVariants.{Enter, Grant, Withdraw, Lines}
use Rattle.desk_replies.specs.Replies.{answer_line, lines_or_refusal, event_of, jobs_after, reply_to}

-- ---- the events of a script

-- a call's event, if it is one, before others
abbrev pub with_event : Option Event → List Event → List Event
with_event None es = es
with_event (Some e) es = e ∷ es

-- the events of some calls, in their order
abbrev pub events_of : Admission → Population → List Call → List Event
events_of a p [] = []
events_of a p (c ∷ cs) = with_event (event_of a p c) (events_of a p cs)

-- the jobs after some calls are what the calls' events make of them, and each event may come where it does
abbrev pub ScriptsAreWorlds : Type 0
ScriptsAreWorlds =
    (a : Admission) (p : Population) (cs : List Call) (d : Jobs)
    → IsAdmission a → Fits a p → (jobs_after a p cs d ≡ after (events_of a p cs) d) × IsWorld (events_of a p cs) d

-- ---- one job of a script

-- how many jobs enter
abbrev pub jobs_entered : List Call → ℕ
jobs_entered [] = 0
jobs_entered (Enter ∷ cs) = 1 + jobs_entered cs
jobs_entered (c ∷ cs) = jobs_entered cs

-- something done to job i is job k's own where they are the same
abbrev pub own_if : ℕ → ℕ → Own → List Own → List Own
own_if k i o os = if i == k then o ∷ os else os

-- the grants to the job of a number, and its withdrawals
abbrev pub own_calls : ℕ → List Call → List Own
own_calls k [] = []
own_calls k (Enter ∷ cs) = own_calls k cs
own_calls k (Grant i n ∷ cs) = own_if k i (Given n) (own_calls k cs)
own_calls k (Withdraw i ∷ cs) = own_if k i Left (own_calls k cs)
own_calls k (Lines i ∷ cs) = own_calls k cs

-- a call on the job of a number
abbrev pub IsOnJob : ℕ → Call → Type 0
IsOnJob k Enter = ⊥
IsOnJob k (Grant i n) = i ≡ k
IsOnJob k (Withdraw i) = i ≡ k
IsOnJob k (Lines i) = i ≡ k

-- what is replied to a call on a job, by that job alone
abbrev pub job_reply : Call → Option JobSeen → List ℕ
job_reply Enter q = []
job_reply (Grant k n) q = answer_line k (says (Given n) q)
job_reply (Withdraw k) q = answer_line k (says Left q)
job_reply (Lines k) q = lines_or_refusal q

-- The job that enters after cs, and what is replied to a call on it after ds, are those of its own calls since its entry:
-- of other jobs' calls nothing.
abbrev pub EachJobOfAScriptAlone : Type 0
EachJobOfAScriptAlone =
    (a : Admission) (p : Population) (cs ds : List Call) (c : Call)
    → IsOnJob (jobs_entered cs) c
    → reply_to a p c (jobs_after a p (cs ++ Enter ∷ ds) []) ≡ job_reply c (goes_on (own_calls (jobs_entered cs) ds) (Some (job_seen a p 0)))
