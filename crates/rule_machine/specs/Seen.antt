-- How a machine is seen, and which configurations it represents.
use Rattle.std.specs.Prelude.{◌≡◌, ℕ, ◌-◌, ◌^◌, min, Some, None}
use Rattle.imkl_population.specs.Population.{Population}
use Rattle.rule_code.specs.Content.{Content}
use Rattle.rule_verify.specs.UnitRules.{unit_rule}
use Rattle.rule_slots.specs.Slots.{Lists}
use Rattle.rule_machine.specs.declared.state.State.{State}
use Rattle.rule_machine.specs.declared.task.Task.{Task}
use Rattle.rule_machine.specs.Machine.{setting_of, Configuration, run, start}
use Rattle.rule_machine.specs.Charges.{work_of}
use Rattle.rule_machine.specs.Laws.{IsAcceptedRun, tree_of_rule}
use Rattle.rule_machine.specs.StandFor.{IsAt}
use Rattle.rule_machine.specs.Shown.{task_lists, LiesInAt}

-- its unit, its population with the lists that slots index, and where it stands
pub record Seen : Type 0 where
  pub unit : Content
  pub population : Population
  pub lists : Lists
  pub state : State

abbrev pub seen : Content → Population → Lists → State → Seen
seen u p l m = record { unit = u; population = p; lists = l; state = m }

-- of a task
abbrev pub seen_in : Task → State → Seen
seen_in t m = seen t.accepted.now.unit t.population.now.content (task_lists t) m

-- nothing is started
abbrev pub IsIdle : Seen → Type 0
IsIdle m = m.state.started ≡ None

-- the machine's parts stand for a configuration of a rule
pub record StandsIn (m : Seen) (r : ℕ) (c : Configuration) : Type 0 where
  pub is : IsAt (setting_of m.unit m.population r) m.lists (unit_rule m.unit r).code m.state.pool.items m.state.at m.state.end m.state.pieces.0 m.state.variables.0 m.state.operands.0 c
  pub place : LiesInAt (unit_rule m.unit r).code m.state.at m.state.end m.state.pieces.0

-- the machine stands where the run of a rule for an object is in the configuration c, for which the work since the
-- start is k
pub record Represents (m : Seen) (r o : ℕ) (c : Configuration) (k : ℕ) : Type 0 where
  pub accepted : IsAcceptedRun m.unit m.population r o
  pub made : ℕ
  pub reached : run (setting_of m.unit m.population r) made (start (tree_of_rule m.unit r) o) ≡ Some c
  pub work : k ≡ work_of (setting_of m.unit m.population r) made (start (tree_of_rule m.unit r) o)
  pub started : m.state.started ≡ Some (record { rule = r; object = o })
  pub stands : StandsIn m r c
  pub count : m.state.count ≡ min k (2 ^ 64 - 1)
