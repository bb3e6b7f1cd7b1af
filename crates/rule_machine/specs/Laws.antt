-- What holds of every run of accepted code, whoever made it.
use Rattle.std.specs.Prelude.{◌≡◌, ◌⊎◌, ℕ, zero, suc, ◌+◌, ◌*◌, ◌<◌, ◌≤◌, List, length, Option, Some, None, Ok, IsSome, option_and_then}
use Rattle.imkl_model.specs.WellFormed.{IsClassModel}
use Rattle.imkl_population.specs.Population.{Population, IsInstance}
use Rattle.imkl_population.specs.Consistency.{IsConsistent}
use Rattle.imkl_population.specs.Sizes.{sizes_of}
use Rattle.rule_code.specs.Content.{Content}
use Rattle.rule_code.specs.WellFormed.{IsUnit}
use Rattle.rule_verify.specs.declared.depths.Depths.{Depths}
use Rattle.rule_verify.specs.CodeTree.{CodeTree, code_tree}
use Rattle.ocl_kinds.specs.declared.kind.Kind.{Kind}
use Rattle.rule_verify.specs.KindRules.{Enclosing, kinds_after}
use Rattle.rule_verify.specs.UnitRules.{unit_rule, depths_of, IsAcceptedUnit}
use Rattle.rule_cost.specs.Bounds.{cost_of}
use Rattle.rule_cost.specs.Admission.{rule_step_bound, Admission, IsAdmission, Fits}
use Rattle.rule_machine.specs.Machine.{setting_of, judged_by, Setting, Configuration, step, run, start}
use Rattle.rule_machine.specs.Charges.{work_of}
use Rattle.rule_values.specs.declared.verdict.Verdict.{Verdict}
use Rattle.rule_machine.specs.Outcome.{outcome}
use Rattle.rule_machine.specs.Places.{Place, kinds_of, lengths_of, sizes_in, places_after, Mark, marks_before, marks_after, StandsAt}

-- A unit that is accepted in a class model, a consistent population of it, the index of a rule, and an object of the
-- rule's context class.
pub record IsAcceptedRun (u : Content) (p : Population) (n o : ℕ) : Type 0 where
  pub model : IsClassModel p.model
  pub population : IsConsistent p
  pub unit : IsUnit u
  pub accepted : IsAcceptedUnit p.model u
  pub rule : n < length u.rules
  pub object : IsInstance p (setting_of u p n).context o

abbrev pub tree_of_rule : Content → ℕ → CodeTree
tree_of_rule u n = code_tree (unit_rule u n).code

-- the bound on what a rule's runs are charged in a population
abbrev pub rule_bound : Content → Population → ℕ → ℕ
rule_bound u p n = rule_step_bound u (sizes_of p) n

-- no configuration that a run reaches is stuck: it has a verdict, or a next step
abbrev pub NeverStuck : Type 0
NeverStuck =
    (u : Content) (p : Population) (n o k : ℕ) (c : Configuration)
    → IsAcceptedRun u p n o
    → run (setting_of u p n) k (start (tree_of_rule u n) o) ≡ Some c
    → IsSome (outcome c) ⊎ IsSome (step (setting_of u p n) c)

-- a run comes to a verdict, charged at most the bound
abbrev pub EndsWithin : Type 0
EndsWithin =
    (u : Content) (p : Population) (n o : ℕ)
    → IsAcceptedRun u p n o
    → (k : ℕ) × (c : Configuration) × (work_of (setting_of u p n) k (start (tree_of_rule u n) o) ≤ rule_bound u p n)
    × (run (setting_of u p n) k (start (tree_of_rule u n) o) ≡ Some c) × IsSome (outcome c)

-- a run of an admitted unit, in a population of just the sizes for which it is admitted, comes to a verdict, charged at
-- most the budget
abbrev pub EndsWithinBudget : Type 0
EndsWithinBudget =
    (a : Admission) (p : Population) (n o : ℕ)
    → IsAdmission a
    → Fits a p
    → IsAcceptedRun a.resolved.unit p n o
    → (k : ℕ) × (c : Configuration) × (work_of (setting_of a.resolved.unit p n) k (start (tree_of_rule a.resolved.unit n) o) ≤ a.budget)
    × (run (setting_of a.resolved.unit p n) k (start (tree_of_rule a.resolved.unit n) o) ≡ Some c) × IsSome (outcome c)

-- In each configuration that a run reaches, every variable and operand is in the kind that the rules of kinds give its
-- place, and each collection, those that iterations hold too, is no longer than its greatest length there.
abbrev pub StandsInKinds : Type 0
StandsInKinds =
    (u : Content) (p : Population) (n o k : ℕ) (c : Configuration)
    → IsAcceptedRun u p n o
    → run (setting_of u p n) k (start (tree_of_rule u n) o) ≡ Some c
    → (ms : List Mark) × (marks_after (setting_of u p n) k (start (tree_of_rule u n) o) (marks_before (setting_of u p n) (tree_of_rule u n) (start (tree_of_rule u n) o)) ≡ Some ms)
    × StandsAt (setting_of u p n) c ms

-- the most operands, variables and open blocks that a rule has at once
abbrev pub rule_depths_in : Content → Population → ℕ → Depths
rule_depths_in u p n = depths_of p.model u n (unit_rule u n)

-- a configuration goes no deeper than these depths: an open block has two pending pieces at most
pub record StaysWithin (d : Depths) (c : Configuration) : Type 0 where
  pub operands : length c.operands ≤ d.operands
  pub variables : length c.variables ≤ d.variables
  pub pieces : length c.pending ≤ 2 * d.blocks + 1

-- each configuration that a run reaches stays within the depths of its rule
abbrev pub StaysWithinDepths : Type 0
StaysWithinDepths =
    (u : Content) (p : Population) (n o k : ℕ) (c : Configuration)
    → IsAcceptedRun u p n o
    → run (setting_of u p n) k (start (tree_of_rule u n) o) ≡ Some c
    → StaysWithin (rule_depths_in u p n) c

-- the places after code have the kinds of the rules of kinds, and the greatest lengths that bounds are computed from
abbrev pub PlacesAreByRules : Type 0
PlacesAreByRules =
    (s : Setting) (t : CodeTree) (e : Enclosing) (vars ps : List Place) (at : ℕ) (ks : List Kind)
    → e.variables ≡ kinds_of vars
    → kinds_after (judged_by s) t e at (kinds_of ps) ≡ Ok ks
    → (kinds_of (places_after s t vars ps) ≡ ks)
    × (lengths_of (places_after s t vars ps) ≡ (cost_of (judged_by s) (sizes_in s) t (lengths_of vars) (lengths_of ps)).lengths)

-- ---- verdicts

-- the first of two that is there
abbrev pub first_there : Option Verdict → Option Verdict → Option Verdict
first_there (Some v) w = Some v
first_there None w = w

-- the verdict that a run comes to within n steps, if it does
abbrev pub verdict_within : Setting → ℕ → Configuration → Option Verdict
verdict_within s zero c = outcome c
verdict_within s (suc n) c = first_there (outcome c) (option_and_then (verdict_within s n) (step s c))

-- the verdict of a rule for an object, if its run comes to one within its bound
abbrev pub verdict_at : Content → Population → ℕ → ℕ → Option Verdict
verdict_at u p r o = verdict_within (setting_of u p r) (rule_bound u p r) (start (tree_of_rule u r) o)
