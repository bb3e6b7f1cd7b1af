use Rattle.rule_trees.proofs.laws.compiled_rules_keep_trees.Goals as goal
use Rattle.rule_trees.proofs.CompiledTrees.{compiled_rules_keep_trees}

-- src/laws.rt
pub returns : goal.returns
returns c = compiled_rules_keep_trees
