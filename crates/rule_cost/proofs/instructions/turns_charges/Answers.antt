use Rattle.std.proofs.Common.{◌∙◌, ◌+◌, refl}
use Rattle.rule_cost.specs.Bounds.{block_ending_charge}
use Rattle.rule_cost.proofs.Cuts.{cut_again, plus_same, times_same}
use Rattle.rule_cost.proofs.instructions.turns_charges.Goals as goal

pub returns : goal.returns
returns c =
    let l = c.args.source in
    let i = c.args.block in
    let all = cut_again c.times.result _ c.times.ensures ∙ times_same l c.turn_charges-turn.result l _ refl c.turn_charges-turn.ensures in
    let turns = cut_again c.plus-turns.result _ c.plus-turns.ensures ∙ plus_same c.new.result c.times.result 2 _ (cut_again c.new.result 2 c.new.ensures) all in
    cut_again c.plus.result _ c.plus.ensures ∙ plus_same c.plus-turns.result c.ending_charge.result _ (block_ending_charge i l) turns c.ending_charge.ensures
