use Rattle.rule_machine.proofs.laws.never_stuck.Goals as goal
use Rattle.rule_machine.proofs.Theorems.{never_stuck}

-- src/laws.rt
pub returns : goal.returns
returns c = never_stuck
