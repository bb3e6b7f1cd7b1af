-- What holds of every world of a desk.
use Rattle.std.specs.Prelude.{◌≡◌, ℕ, ◌+◌, ◌<◌, ◌≤◌, List, [], ◌∷◌, ◌++◌, length, Option, Some, None}
use Rattle.imkl_population.specs.Population.{Population}
use Rattle.rule_cost.specs.Admission.{Admission}
use Rattle.rule_desk.specs.Seen.{JobSeen, job_seen}
use Rattle.rule_desk.specs.Job.{IsRunnable, total_cost, job_bound}
use Rattle.rule_desk.specs.World.{Event, Jobs, job_at, goes_on, says_on, after, answers_to, own, entries, IsWorld}
use Rattle.rule_desk.specs.World.Event.{Entered}

-- each job, and the answers to it, are those of its own events alone
abbrev pub EachJobAlone : Type 0
EachJobAlone =
    (es : List Event) (d : Jobs) (k : ℕ)
    → k < length d → (job_at (after es d) k ≡ goes_on (own k es) (job_at d k)) × (answers_to k es d ≡ says_on (own k es) (job_at d k))

-- the job that enters after es in a desk that was empty is, after fs, as its own events make it
abbrev pub EachJobFromItsEntry : Type 0
EachJobFromItsEntry =
    (es fs : List Event) (a : Admission) (p : Population)
    → job_at (after (es ++ Entered a p ∷ fs) []) (entries es) ≡ goes_on (own (entries es) fs) (Some (job_seen a p 0))

-- the next number rises by one with each entry, and with nothing else
abbrev pub NumbersInOrder : Type 0
NumbersInOrder = (es : List Event) (d : Jobs) → length (after es d) ≡ length d + entries es

abbrev pub IsWithinCost : Option JobSeen → Type 0
IsWithinCost None = Unit {0}
IsWithinCost (Some j) = j.spent ≤ total_cost j

-- no job is ever past its cost
abbrev pub NeverPastItsCost : Type 0
NeverPastItsCost =
    (es : List Event) (d : Jobs)
    → IsWorld es d → ((k : ℕ) → IsWithinCost (job_at d k)) → (k : ℕ) → IsWithinCost (job_at (after es d) k)

-- what a job costs is at most its bound
abbrev pub CostsWithinBounds : Type 0
CostsWithinBounds = (j : JobSeen) → IsRunnable j.admission.resolved.unit j.population → total_cost j ≤ job_bound j
