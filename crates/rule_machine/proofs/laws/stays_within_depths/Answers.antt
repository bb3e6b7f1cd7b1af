use Rattle.rule_machine.proofs.laws.stays_within_depths.Goals as goal
use Rattle.rule_machine.proofs.Theorems.{stays_within_depths}

-- src/laws.rt
pub returns : goal.returns
returns c = stays_within_depths
