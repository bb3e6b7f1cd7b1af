use Rattle.std.proofs.Common.{◌≡◌, ◌*◌, ◌^◌, ◌≤◌}
use Rattle.rule_desk.specs.Job.{bounds_of_rules}
use Rattle.rule_desk.proofs.job.Job.bound.Given as goal

abbrev pub invariant-loop-rule : goal.invariant-loop-rule
invariant-loop-rule l = record {
  sum : l.bound ≡ bounds_of_rules l.self.job.admission.resolved.unit l.self.job.population l.rule;
  small : l.bound ≤ l.rule * (2 ^ 63 * 1000000);
}
