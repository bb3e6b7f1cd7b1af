use Rattle.std.proofs.Common.{true, sym, ap, ◌∙◌}
use Rattle.ocl_base.specs.Lists.{repeats}
use Rattle.rule_slots.specs.Slots.{lists_in, held_slots}
use Rattle.rule_slots.specs.declared.slot.Slot.{Slot}
use Rattle.rule_slots.specs.Compared.{same_slots}
use Rattle.rule_slots.specs.Ordered.{compare_slots, is_defined, may_precede, rises}
use Rattle.rule_slots.proofs.SlotOrder.{distinct_in_order, repeats_slots_moved}
use Rattle.rule_slots.proofs.sets.repeats_in_pool.Goals as goal

pub returns-then-is_in_order-clause-told : goal.returns-then-is_in_order-clause-told
returns-then-is_in_order-clause-told c =
    let l = lists_in c.args.lists in
    let before = λ (a b : Slot). may_precede true (compare_slots l c.args.kind a b) in
    let up = ap (λ z. rises is_defined before (held_slots l z c.args.part)) (sym c.deref-2.ensures.value) ∙ sym c.is_in_order.ensures ∙ c.if-is_in_order.true in
    sym (distinct_in_order l c.args.kind (held_slots l c.args.pool.now.items c.args.part) up)

pub returns-clause-told : goal.returns-clause-told
returns-clause-told c =
    let l = lists_in c.args.lists in
    let w = c.args.kind in
    let old = c.args.pool.now.items in
    let new = c.sort_part.new.pool.items in
    c.repeats_slot-2.ensures ∙ ap (λ p. repeats (same_slots l w) (held_slots l p c.args.part)) c.deref-3.ensures.value ∙ sym (repeats_slots_moved l w (held_slots l old c.args.part) (held_slots l new c.args.part) c.sort_part.ensures.moved)
