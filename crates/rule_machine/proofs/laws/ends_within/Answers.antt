use Rattle.rule_machine.proofs.laws.ends_within.Goals as goal
use Rattle.rule_machine.proofs.Theorems.{ends_within}

-- src/laws.rt
pub returns : goal.returns
returns c = ends_within
