use Rattle.rule_trees.proofs.laws.trees_are_resolved.Goals as goal
use Rattle.rule_trees.proofs.TreesResolved.{trees_are_resolved}

-- src/laws.rt
pub returns : goal.returns
returns c = trees_are_resolved
