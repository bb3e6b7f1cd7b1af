use Rattle.std.proofs.Common.{◌∙◌}
use Rattle.rule_verify.specs.Walk.{surroundings_of}
use Rattle.rule_verify.proofs.Taken.{others_take}
use Rattle.rule_verify.proofs.operands.operands_of.Goals as goal

pub returns-in_default : goal.returns-in_default
returns-in_default c =
    let d = c.in_default in
    c.block_operands.ensures ∙ others_take (surroundings_of c.args.rule.now) c.args.instr d.not-Attr d.not-AsColl d.not-Eq d.not-Includes d.not-Count d.not-IncAll d.not-ExcAll d.not-AsSet
