use Rattle.rule_machine.proofs.laws.ends_within_budget.Goals as goal
use Rattle.rule_machine.proofs.Theorems.{ends_within_budget}

-- src/laws.rt
pub returns : goal.returns
returns c = ends_within_budget
