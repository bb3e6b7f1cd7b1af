use Rattle.std.proofs.Common.{sym, ◌∙◌, arith}
use Rattle.rule_slots.specs.Slots.{lists_in, held_slots}
use Rattle.rule_slots.specs.Compared.{same_slots}
use Rattle.rule_slots.proofs.Loops.{held_long, times_more, times_other, times_end}
use Rattle.rule_slots.proofs.elements.times_in.Goals as goal
use Rattle.rule_slots.proofs.elements.times_in.Goals.{then-same_slots, else-same_slots}

pub loop-index-init : goal.loop-index-init
loop-index-init c = (omega arith, omega arith)

pub overflow_add-count : goal.overflow_add-count
overflow_add-count c = omega (arith, c.loop-index.invariant.1, c.loop-index-test.true)

pub loop-index-preserved : goal.loop-index-preserved
loop-index-preserved c =
    let l = lists_in c.args.lists in
    let same = same_slots l c.args.kind in
    let held = held_slots l c.args.pool.now c.args.source in
    let n = c.loop-index.index in
    let i = c.loop-index.invariant in
    elim c.if-same_slots.branch [
      | then-same_slots w ↦ (omega (arith, i.0, w.count-is, times_more same held n c.element_in-found.result c.args.slot c.element_in-found.ensures (sym c.same_slots.ensures ∙ w.if-same_slots.true)), omega (arith, i.1, w.count-is))
      | else-same_slots w ↦ (omega (arith, i.0, w.count-is, times_other same held n c.element_in-found.result c.args.slot c.element_in-found.ensures (sym c.same_slots.ensures ∙ w.if-same_slots.false)), omega (arith, i.1, w.count-is))
    ]

pub returns : goal.returns
returns c =
    let l = lists_in c.args.lists in
    let same = same_slots l c.args.kind in
    let held = held_slots l c.args.pool.now c.args.source in
    omega (arith, c.loop-index.invariant.0, times_end same held c.loop-index.index c.args.slot (omega (arith, held_long l c.args.pool.now c.args.source c.requires.within, c.loop-index-test.false)))
