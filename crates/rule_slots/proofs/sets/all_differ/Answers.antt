use Rattle.std.proofs.Common.{true, sym, ap, ◌∙◌}
use Rattle.rule_slots.specs.declared.slot.Slot.{Slot}
use Rattle.rule_slots.specs.Slots.{lists_in, held_slots}
use Rattle.rule_slots.specs.Ordered.{compare_slots, is_defined, may_precede, rises}
use Rattle.rule_slots.proofs.SlotOrder.{distinct_in_order}
use Rattle.rule_slots.proofs.sets.all_differ.Goals as goal

pub returns-then-is_in_order-clause-told : goal.returns-then-is_in_order-clause-told
returns-then-is_in_order-clause-told c = λ e.
    let l = lists_in c.args.lists in
    let w = c.args.kind in
    let before = λ (a b : Slot). may_precede true (compare_slots l w a b) in
    let up = ap (λ z. rises is_defined before (held_slots l z c.args.source)) (sym c.deref.ensures.value) ∙ sym c.is_in_order.ensures ∙ c.if-is_in_order.true in
    distinct_in_order l w (held_slots l c.args.pool.now.items c.args.source) up
