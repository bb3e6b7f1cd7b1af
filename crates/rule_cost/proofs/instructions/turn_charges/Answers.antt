use Rattle.std.proofs.Common.{◌∙◌, ◌+◌, refl}
use Rattle.rule_cost.specs.Bounds.{block_taking_charge}
use Rattle.rule_cost.proofs.Cuts.{cut_again, plus_same}
use Rattle.rule_cost.proofs.instructions.turn_charges.Goals as goal

pub returns : goal.returns
returns c =
    let b = c.args.body in
    let made = cut_again c.plus-made.result _ c.plus-made.ensures ∙ plus_same c.new.result b 1 b (cut_again c.new.result 1 c.new.ensures) refl in
    cut_again c.plus.result _ c.plus.ensures ∙ plus_same c.plus-made.result c.taking_charge.result (1 + b) (block_taking_charge c.args.block c.args.ended) made c.taking_charge.ensures
