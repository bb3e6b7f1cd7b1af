use Rattle.std.proofs.Common.{◌∙◌}
use Rattle.rule_trees.specs.TreeWalk.{surroundings_in}
use Rattle.rule_trees.proofs.Families.{other_truths}
use Rattle.rule_trees.proofs.operations.truth_operation.Goals as goal

pub returns-in_default : goal.returns-in_default
returns-in_default c =
    let d = c.in_default in
    λ trees. other_truths (surroundings_in c.args.code.now) c.args.instr trees d.not-Lt d.not-Le d.not-Gt d.not-Ge d.not-Not d.not-And d.not-Or d.not-Xor d.not-Implies d.not-Eq d.not-Eqx d.not-Undef d.not-IsInv ∙ c.element_operation.ensures trees
