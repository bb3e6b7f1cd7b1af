-- Runs of accepted code end with what its core tree means.
use Rattle.std.proofs.Common.{◌≡◌, ℕ, List, [], ◌∷◌, Some, refl}
use Rattle.imkl_population.specs.Population.{Population}
use Rattle.ocl_core.specs.Core.{CoreTree}
use Rattle.rule_code.specs.Content.{Content}
use Rattle.rule_values.specs.Value.{Value, object_value}
use Rattle.rule_values.specs.Verdict.{verdict_of}
use Rattle.rule_machine.specs.Machine.{setting_of, judged_by, Configuration, configuration, run, start}
use Rattle.rule_machine.specs.Laws.{IsAcceptedRun, tree_of_rule, rule_bound, verdict_at}
use Rattle.rule_machine.proofs.ForAbove.{goes_on, within_bound, verdict_found}
use Rattle.ocl_semantics.specs.Meaning.{meaning}
use Rattle.rule_trees.specs.CoreOf.{trees_after}
use Rattle.rule_trees.specs.Laws.{IsCoreOf, RunsEndWithTrees, VerdictsAreOfTrees}
use Rattle.rule_trees.proofs.Steps.{sole_is}
use Rattle.rule_trees.proofs.CodeReached.{code_reached}

module _ (u : Content) (p : Population) (n o : ℕ) (c : CoreTree) (accepted : IsAcceptedRun u p n o) (core : IsCoreOf p.model u n c) where
  abbrev vars : List Value
  vars = object_value o ∷ []

  abbrev final : Configuration
  final = configuration [] vars (meaning p c vars ∷ [])

  -- the run comes to the end of the code, with what its only tree means
  ends : (k : ℕ) × (run (setting_of u p n) k (start (tree_of_rule u n) o) ≡ Some final)
  ends =
      code_reached (setting_of u p n) (start (tree_of_rule u n) o) (λ k d reached going. let e = goes_on u p n o k d accepted reached going in (e.0, e.1)) (tree_of_rule u n) [] (c ∷ [])
      (sole_is (trees_after (judged_by (setting_of u p n)) (tree_of_rule u n) []) c core) [] vars [] (0, refl)

  -- that is final, so it has the verdict
  verdict : verdict_at u p n o ≡ Some (verdict_of (meaning p c vars))
  verdict =
      verdict_found u p n o accepted (rule_bound u p n) ends.0 (start (tree_of_rule u n) o) final (verdict_of (meaning p c vars)) ends.1 refl (within_bound u p n o ends.0 final accepted ends.1)

pub runs_end_with_trees : RunsEndWithTrees
runs_end_with_trees u p n o c accepted core = ends u p n o c accepted core

pub verdicts_are_of_trees : VerdictsAreOfTrees
verdicts_are_of_trees u p n o c accepted core = verdict u p n o c accepted core
