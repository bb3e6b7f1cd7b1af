use Rattle.rule_machine.proofs.laws.stands_in_kinds.Goals as goal
use Rattle.rule_machine.proofs.Theorems.{stands_in_kinds}

-- src/laws.rt
pub returns : goal.returns
returns c = stands_in_kinds
