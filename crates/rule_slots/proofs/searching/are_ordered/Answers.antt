use Rattle.std.proofs.Common.{sym, ap, ◌∙◌, arith}
use Rattle.rule_slots.specs.Comparer.{slots_by, admits, is_held}
use Rattle.rule_slots.proofs.Loops.{held_count, all_next, all_failed, all_end}
use Rattle.rule_slots.proofs.searching.are_ordered.Goals as goal

pub returns-then-not-admits : goal.returns-then-not-admits
returns-then-not-admits c =
    let v = c.args.comparer in
    let q = c.args.quantifier in
    sym (c.loop-index.invariant ∙ all_failed (is_held v q c.args.source) (slots_by v c.args.others) c.loop-index.index c.element-slot.result c.element-slot.ensures (sym (c.admits.ensures ∙ ap (admits q) c.is_among_ordered-is_there.ensures) ∙ c.if-not-admits.true))

pub loop-index-preserved : goal.loop-index-preserved
loop-index-preserved c =
    let v = c.args.comparer in
    let q = c.args.quantifier in
    c.loop-index.invariant ∙ all_next (is_held v q c.args.source) (slots_by v c.args.others) c.loop-index.index c.element-slot.result c.element-slot.ensures (sym (c.admits.ensures ∙ ap (admits q) c.is_among_ordered-is_there.ensures) ∙ c.if-not-admits.false)

pub returns : goal.returns
returns c =
    let v = c.args.comparer in
    sym (c.loop-index.invariant ∙ all_end (is_held v c.args.quantifier c.args.source) (slots_by v c.args.others) c.loop-index.index (omega (arith, held_count v c.args.others c.requires.others, c.loop-index-test.false)))
