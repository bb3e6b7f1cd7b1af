use Rattle.rule_trees.proofs.laws.runs_end_with_trees.Goals as goal
use Rattle.rule_trees.proofs.TreeRuns.{runs_end_with_trees}

-- src/laws.rt
pub returns : goal.returns
returns c = runs_end_with_trees
