use Rattle.rule_trees.proofs.laws.accepted_rules_have_trees.Goals as goal
use Rattle.rule_trees.proofs.TreesThere.{accepted_rules_have_trees}

-- src/laws.rt
pub returns : goal.returns
returns c = accepted_rules_have_trees
