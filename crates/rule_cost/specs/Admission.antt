-- Which units are admitted within a budget.
use Rattle.std.specs.Prelude.{◌≡◌, ◌<◌, ◌≤◌, ℕ, Bool, false, not, length, Option, Some, None, Result, Ok, Err, nat_le, unwrap_or}
use Rattle.ocl_base.specs.Numbers.{least}
use Rattle.imkl_population.specs.Sizes.{Sizes, sizes_of}
use Rattle.imkl_population.specs.Population.{Population}
use Rattle.rule_code.specs.Content.{Content}
use Rattle.rule_verify.specs.CodeTree.{code_tree}
use Rattle.rule_verify.specs.InstrKinds.{Surroundings, surroundings}
use Rattle.rule_verify.specs.Resolved.{ResolvedUnit}
use Rattle.rule_verify.specs.UnitRules.{unit_rule, context_class, IsAcceptedUnit}
use Rattle.rule_cost.specs.declared.cut.Bound.{Bound}
use Rattle.rule_cost.specs.declared.cut.Bound.TheVariants.{Steps, Over}
use Rattle.rule_cost.specs.Bounds.{step_bound}
use Rattle.rule_cost.specs.Limits.{step_limit, limited_bound}

-- ---- one rule

-- what the code of the rule of an index is bounded by, in the class model of the sizes
abbrev pub rule_surroundings : Content → Sizes → ℕ → Surroundings
rule_surroundings u z r = surroundings z.model u r (unwrap_or (context_class z.model u (unit_rule u r)) 0)

-- an upper limit on what the run of the rule of an index is charged for an object, in a population of these sizes; a run may
-- be charged less
abbrev pub rule_step_bound : Content → Sizes → ℕ → ℕ
rule_step_bound u z r = step_bound (rule_surroundings u z r) z (code_tree (unit_rule u r).code)

-- a bound that is not over, and at most a budget
abbrev pub is_affordable : ℕ → Bound → Bool
is_affordable budget (Steps n) = nat_le n budget
is_affordable budget Over = false

-- ---- units

-- the first rule whose bound is over or above the budget
abbrev pub first_too_costly : Content → Sizes → ℕ → Option ℕ
first_too_costly u z budget = least (λ r. not (is_affordable budget (limited_bound (rule_step_bound u z r)))) (length u.rules)

abbrev pub refused_at : Option ℕ → Result (Unit {0}) ℕ
refused_at None = Ok tt
refused_at (Some r) = Err r

-- every rule is affordable, or which is the first that isn't
abbrev pub admission : Content → Sizes → ℕ → Result (Unit {0}) ℕ
admission u z budget = refused_at (first_too_costly u z budget)

-- a unit in a class model, the sizes of a population of it, and the budget within which each rule is
pub record Admission : Type 0 where
  pub resolved : ResolvedUnit
  pub sizes : Sizes
  pub budget : ℕ

-- what is known of each admission
pub record IsAdmission (a : Admission) : Type 0 where
  pub accepted : IsAcceptedUnit a.resolved.model a.resolved.unit
  pub one_model : a.sizes.model ≡ a.resolved.model
  pub below_limit : (r : ℕ) → r < length a.resolved.unit.rules → rule_step_bound a.resolved.unit a.sizes r < step_limit
  pub within_budget : (r : ℕ) → r < length a.resolved.unit.rules → rule_step_bound a.resolved.unit a.sizes r ≤ a.budget

-- a population of the admission's class model and of just its sizes
abbrev pub Fits : Admission → Population → Type 0
Fits a p = (p.model ≡ a.resolved.model) × (sizes_of p ≡ a.sizes)
