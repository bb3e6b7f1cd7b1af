use Rattle.rule_machine.proofs.laws.places_are_by_rules.Goals as goal
use Rattle.rule_machine.proofs.Theorems.{places_are_by_rules}

-- src/laws.rt
pub returns : goal.returns
returns c = places_are_by_rules
