use Rattle.rule_verify.proofs.Stretches.{code_tree_count}
use Rattle.rule_verify.proofs.laws.code_trees.Goals as goal

pub returns : goal.returns
returns c = code_tree_count
