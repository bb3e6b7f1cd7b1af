use Rattle.rule_trees.proofs.laws.translating_is_undone.Goals as goal
use Rattle.rule_trees.proofs.TreesBack.{translating_is_undone}

-- src/laws.rt
pub returns : goal.returns
returns c = translating_is_undone
