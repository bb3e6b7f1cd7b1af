use Rattle.std.proofs.Common.{◌∙◌}
use Rattle.rule_trees.specs.TreeWalk.{surroundings_in}
use Rattle.rule_trees.proofs.Families.{other_numbers}
use Rattle.rule_trees.proofs.operations.operation_of.Goals as goal

pub returns-in_default : goal.returns-in_default
returns-in_default c =
    let d = c.in_default in
    λ trees. other_numbers (surroundings_in c.args.code.now) c.args.instr trees d.not-Add d.not-Sub d.not-Mul d.not-Div d.not-Mod d.not-Neg d.not-Abs d.not-Min d.not-Max d.not-TLen d.not-SubStr ∙ c.truth_operation.ensures trees
