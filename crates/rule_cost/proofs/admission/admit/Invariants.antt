use Rattle.std.proofs.Common.{◌≡◌}
use Rattle.imkl_population.specs.Sizes.{list_below}
use Rattle.rule_cost.specs.Admission.{rule_step_bound}
use Rattle.rule_cost.proofs.Affordable.{AllAffordable}
use Rattle.rule_cost.proofs.admission.admit.Given as goal

abbrev pub invariant-loop-rule : goal.invariant-loop-rule
invariant-loop-rule l =
    (l.bounds.items ≡ list_below (rule_step_bound l.accepted.unit l.sizes) l.rule) × AllAffordable l.accepted.unit l.sizes l.budget l.rule
