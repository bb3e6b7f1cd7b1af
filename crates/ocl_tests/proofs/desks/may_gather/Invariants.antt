use Rattle.std.proofs.Common.{◌≡◌, ◌<◌, ℕ, false}
use Rattle.rule_verify.specs.UnitRules.{unit_rule, takes_memory}
use Rattle.ocl_tests.proofs.desks.may_gather.Given as goal

abbrev pub invariant-loop-rule : goal.invariant-loop-rule
invariant-loop-rule l = (r : ℕ) → r < l.rule → takes_memory (unit_rule l.accepted.unit r) ≡ false
