use Rattle.rule_trees.proofs.laws.verdicts_are_of_trees.Goals as goal
use Rattle.rule_trees.proofs.TreeRuns.{verdicts_are_of_trees}

-- src/laws.rt
pub returns : goal.returns
returns c = verdicts_are_of_trees
