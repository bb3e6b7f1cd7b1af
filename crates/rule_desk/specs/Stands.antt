-- How the fields of a job stand to what is seen of it.
use Rattle.std.specs.Prelude.{◌≡◌, ℕ, ◌+◌, ◌<◌, ◌≤◌, Bool, true, false, List, length, take, sum, slice_index_or, Option, Some, None, Result, Ok, Err}
use Rattle.imkl_population.specs.Population.{Population}
use Rattle.rule_cost.specs.Admission.{Admission, Fits, IsAdmission}
use Rattle.rule_machine.specs.Machine.{Configuration}
use Rattle.rule_machine.specs.Outcome.{outcome}
use Rattle.rule_machine.specs.Laws.{verdict_at}
use Rattle.rule_machine.specs.Seen.{Seen, Represents}
use Rattle.rule_report.specs.Cursor.{CursorSeen, told_pairs, due, IsToldBy, report_until, room_of}
use Rattle.rule_desk.specs.Seen.{JobSeen}
use Rattle.rule_desk.specs.Job.{IsRunnable, IsWhole, costs_of, total_cost, spent_after}

-- The machine is in the run of the pair that is due, which is charged `work` so far, and isn't at its end; there is room for
-- the pair's line.
pub record IsReady (m : Seen) (c : CursorSeen) (work len capacity : ℕ) : Type 0 where
  pub rule : ℕ
  pub object : ℕ
  pub at : Configuration
  pub due : due c ≡ Some (rule, object)
  pub stands : Represents m rule object at work
  pub goes : outcome at ≡ None
  pub room : len + room_of c ≤ capacity

-- the pair that is due is begun, or none of its steps is made
abbrev pub IsAtPair : Bool → Seen → CursorSeen → ℕ → ℕ → ℕ → Type 0
IsAtPair true m c work len capacity = IsReady m c work len capacity
IsAtPair false m c work len capacity = work ≡ 0

pub record Stands (a : Admission) (p : Population) (c : CursorSeen) (m : Seen) (begun : Bool) (lines : List ℕ) (capacity spent : ℕ) : Type 0 where
  pub admission : IsAdmission a
  pub fits : Fits a p
  pub runnable : IsRunnable a.resolved.unit p
  pub code : c.unit ≡ a.resolved.unit
  pub over : c.population ≡ p
  pub machine_code : m.unit ≡ a.resolved.unit
  pub machine_over : m.population ≡ p
  pub told : IsToldBy c (verdict_at a.resolved.unit p)
  pub text : lines ≡ report_until a.resolved.unit p (verdict_at a.resolved.unit p) (told_pairs c)
  pub pairs : told_pairs c ≤ length (costs_of a.resolved.unit p)
  pub work : ℕ
  pub sum : spent ≡ sum (take (told_pairs c) (costs_of a.resolved.unit p)) + work
  pub short : told_pairs c < length (costs_of a.resolved.unit p) → work < slice_index_or (costs_of a.resolved.unit p) (told_pairs c) 0
  pub none : told_pairs c ≡ length (costs_of a.resolved.unit p) → work ≡ 0
  pub at_pair : IsAtPair begun m c work (length lines) capacity

-- A grant of n, as far as one pair goes. It ends within the pair, where what is left doesn't pay for the next step; or the
-- pair's end is reached, with so much left; or memory ran out, before a step that it pays for.
abbrev pub Advanced : {E : Type 0} → JobSeen → ℕ → Result (Option ℕ) E → JobSeen → Type 0
Advanced old n (Ok None) new = (new.spent ≡ spent_after old n) × (old.spent + n < total_cost old)
Advanced old n (Ok (Some left)) new = (left < n) × (new.spent + left ≡ old.spent + n) × (new.spent ≤ total_cost old) × IsWhole new
Advanced old n (Err e) new = (old.spent ≤ new.spent) × (new.spent < old.spent + n) × (new.spent < total_cost old) × IsWhole new
