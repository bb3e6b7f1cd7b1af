-- A job alone. Its pairs, of a rule and an object of its context class, stand in the order of its report. Here is what the
-- steps of each are charged, and how far the report is once some of it is paid.
use Rattle.std.specs.Prelude.{◌≡◌, ℕ, zero, suc, ◌+◌, ◌-◌, ◌*◌, List, [], ◌∷◌, length, map, sum, is_some, unwrap_or, nat_le, if◌then◌else◌}
use Rattle.std.specs.List.{flat_map}
use Rattle.std.specs.Option.{option_map}
use Rattle.imkl_model.specs.WellFormed.{IsClassModel}
use Rattle.imkl_population.specs.Population.{Population}
use Rattle.imkl_population.specs.Consistency.{IsConsistent}
use Rattle.rule_code.specs.Content.{Content}
use Rattle.rule_code.specs.WellFormed.{IsUnit}
use Rattle.rule_verify.specs.UnitRules.{IsAcceptedUnit}
use Rattle.rule_machine.specs.Machine.{Setting, setting_of, Configuration, step, start}
use Rattle.rule_machine.specs.Charges.{charge_of}
use Rattle.rule_machine.specs.Outcome.{outcome}
use Rattle.rule_machine.specs.Laws.{tree_of_rule, rule_bound, verdict_at}
use Rattle.rule_report.specs.Report.{context_objects}
use Rattle.rule_report.specs.Cursor.{all_pairs, report_until}
use Rattle.rule_desk.specs.Seen.{JobSeen}

-- code that is accepted in the class model of a consistent population
pub record IsRunnable (u : Content) (p : Population) : Type 0 where
  pub model : IsClassModel p.model
  pub population : IsConsistent p
  pub unit : IsUnit u
  pub accepted : IsAcceptedUnit p.model u

-- ---- what is charged

-- the charges of a run's steps to its end, which is looked for among the first `most` steps
abbrev pub charges_within : Setting → ℕ → Configuration → List ℕ
charges_within s zero c = []
charges_within s (suc most) c = if is_some (outcome c) then [] else charge_of c ∷ unwrap_or (option_map (charges_within s most) (step s c)) []

-- the charges of a pair's run; it ends within as many steps as its rule's bound, since no step is free
abbrev pub pair_charges : Content → Population → ℕ × ℕ → List ℕ
pair_charges u p q = charges_within (setting_of u p q.0) (rule_bound u p q.0) (start (tree_of_rule u q.0) q.1)

-- the charges of a job's steps, pair after pair
abbrev pub charges_of : Content → Population → List ℕ
charges_of u p = flat_map (pair_charges u p) (all_pairs u p)

-- what a pair costs, and what each does
abbrev pub pair_cost : Content → Population → ℕ × ℕ → ℕ
pair_cost u p q = sum (pair_charges u p q)

abbrev pub costs_of : Content → Population → List ℕ
costs_of u p = map (pair_cost u p) (all_pairs u p)

-- ---- what is paid

-- how many of the first costs s pays for
abbrev pub paid_for : List ℕ → ℕ → ℕ
paid_for [] s = 0
paid_for (c ∷ cs) s = if nat_le c s then suc (paid_for cs (s - c)) else 0

-- the report once s is spent: up to the line of the first pair that isn't paid for
abbrev pub lines_at : Content → Population → ℕ → List ℕ
lines_at u p s = report_until u p (verdict_at u p) (paid_for (costs_of u p) s)

-- the greatest total of the first of some charges that is at most n
abbrev pub greatest_total : List ℕ → ℕ → ℕ
greatest_total [] n = 0
greatest_total (c ∷ cs) n = if nat_le c n then c + greatest_total cs (n - c) else 0

-- ---- of a job as it is seen

abbrev pub total_cost : JobSeen → ℕ
total_cost j = sum (costs_of j.admission.resolved.unit j.population)

abbrev pub lines_now : JobSeen → List ℕ
lines_now j = lines_at j.admission.resolved.unit j.population j.spent

-- what is spent after a grant of n: the greatest total of whole steps that it pays for with what was spent before
abbrev pub spent_after : JobSeen → ℕ → ℕ
spent_after j n = greatest_total (charges_of j.admission.resolved.unit j.population) (j.spent + n)

-- what is spent is the total of whole steps, the first of the job's
abbrev pub IsWhole : JobSeen → Type 0
IsWhole j = greatest_total (charges_of j.admission.resolved.unit j.population) j.spent ≡ j.spent

-- the bounds of the first n rules, each taken for all objects of its context class
abbrev pub bounds_of_rules : Content → Population → ℕ → ℕ
bounds_of_rules u p zero = 0
bounds_of_rules u p (suc r) = bounds_of_rules u p r + rule_bound u p r * length (context_objects u p r)

abbrev pub job_bound : JobSeen → ℕ
job_bound j = bounds_of_rules j.admission.resolved.unit j.population (length j.admission.resolved.unit.rules)
