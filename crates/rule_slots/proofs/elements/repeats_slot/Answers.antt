use Rattle.std.proofs.Common.{sym, ap, ◌∙◌, drop, ◌+◌, arith}
use Rattle.std.specs.Prelude.{◌||◌}
use Rattle.ocl_base.specs.Lists.{repeats}
use Rattle.rule_slots.specs.Slots.{lists_in, held_slots}
use Rattle.rule_slots.specs.Compared.{same_slots}
use Rattle.rule_slots.proofs.Loops.{held_long, repeats_next, repeats_end}
use Rattle.rule_slots.proofs.SlotOrder.{distinct_in_order, twice_in_order}
use Rattle.rule_slots.proofs.elements.repeats_slot.Goals as goal

pub returns-then-is_in_order : goal.returns-then-is_in_order
returns-then-is_in_order c =
    let l = lists_in c.args.lists in
    sym (distinct_in_order l c.args.kind (held_slots l c.args.pool.now c.args.source) (sym c.is_in_order.ensures ∙ c.if-is_in_order.true))

pub returns-then-is_in_order-2 : goal.returns-then-is_in_order-2
returns-then-is_in_order-2 c =
    let l = lists_in c.args.lists in
    sym (twice_in_order l c.args.kind (held_slots l c.args.pool.now c.args.source) (sym c.is_in_order-2.ensures ∙ c.if-is_in_order-2.true) (sym c.is_in_order.ensures ∙ c.if-is_in_order.false))

pub returns-then-is_some : goal.returns-then-is_some
returns-then-is_some c =
    let l = lists_in c.args.lists in
    let same = same_slots l c.args.kind in
    let held = held_slots l c.args.pool.now c.args.source in
    sym (c.loop-index.invariant ∙ repeats_next same held c.loop-index.index c.element-slot.result c.element-slot.ensures ∙ ap (λ z. z || repeats same (drop (c.loop-index.index + 1) held)) (sym c.find_from.ensures ∙ sym c.is_some.ensures ∙ c.if-is_some.true))

pub loop-index-preserved : goal.loop-index-preserved
loop-index-preserved c =
    let l = lists_in c.args.lists in
    let same = same_slots l c.args.kind in
    let held = held_slots l c.args.pool.now c.args.source in
    c.loop-index.invariant ∙ repeats_next same held c.loop-index.index c.element-slot.result c.element-slot.ensures ∙ ap (λ z. z || repeats same (drop (c.loop-index.index + 1) held)) (sym c.find_from.ensures ∙ sym c.is_some.ensures ∙ c.if-is_some.false)

pub returns : goal.returns
returns c =
    let l = lists_in c.args.lists in
    sym (c.loop-index.invariant ∙ repeats_end (same_slots l c.args.kind) (held_slots l c.args.pool.now c.args.source) c.loop-index.index (omega (arith, held_long l c.args.pool.now c.args.source c.requires, c.loop-index-test.false)))
