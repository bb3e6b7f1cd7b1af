use Rattle.rule_verify.proofs.CheckedRules.{Checked}
use Rattle.rule_verify.proofs.rules.check_rules.Given as goal

abbrev pub invariant-loop-index : goal.invariant-loop-index
invariant-loop-index l = Checked l.resolved.model l.resolved.unit l.index l.depths.items
