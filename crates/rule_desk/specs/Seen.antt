-- How a job is seen, and how a desk.
use Rattle.std.specs.Prelude.{ℕ, List, Option}
use Rattle.imkl_population.specs.Population.{Population}
use Rattle.rule_cost.specs.Admission.{Admission}

-- admitted code, a population, and what is spent, which is what the steps made were charged
pub record JobSeen : Type 0 where
  pub admission : Admission
  pub population : Population
  pub spent : ℕ

abbrev pub job_seen : Admission → Population → ℕ → JobSeen
job_seen a p s = record { admission = a; population = p; spent = s }

-- a desk: its jobs by their numbers, with a gap for each that was withdrawn, and their rooms by the same numbers
pub record DeskSeen : Type 0 where
  pub jobs : List (Option JobSeen)
  pub rooms : List ℕ
