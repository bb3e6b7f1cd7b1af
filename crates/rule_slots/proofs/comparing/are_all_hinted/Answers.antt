use Rattle.std.proofs.Common.{sym, ◌∙◌, arith}
use Rattle.rule_slots.specs.declared.comparer.Quantifier.TheVariants as quantifier
use Rattle.rule_slots.specs.Comparer.{slots_by, is_held}
use Rattle.rule_slots.proofs.Loops.{held_count, all_next, all_failed, all_end}
use Rattle.rule_slots.proofs.comparing.are_all_hinted.Goals as goal

pub returns-then-not-is_hinted_among : goal.returns-then-not-is_hinted_among
returns-then-not-is_hinted_among c =
    let v = c.args.comparer in
    sym (c.loop-index.invariant ∙ all_failed (is_held v quantifier.All c.args.source) (slots_by v c.args.others) c.loop-index.index c.element-slot.result c.element-slot.ensures (sym c.is_hinted_among.ensures ∙ c.if-not-is_hinted_among.true))

pub loop-index-preserved : goal.loop-index-preserved
loop-index-preserved c =
    let v = c.args.comparer in
    c.loop-index.invariant ∙ all_next (is_held v quantifier.All c.args.source) (slots_by v c.args.others) c.loop-index.index c.element-slot.result c.element-slot.ensures (sym c.is_hinted_among.ensures ∙ c.if-not-is_hinted_among.false)

pub returns : goal.returns
returns c =
    let v = c.args.comparer in
    sym (c.loop-index.invariant ∙ all_end (is_held v quantifier.All c.args.source) (slots_by v c.args.others) c.loop-index.index (omega (arith, held_count v c.args.others c.requires.others, c.loop-index-test.false)))
