use Rattle.std.proofs.Common.{sym, ap, ◌∙◌}
use Rattle.std.specs.Prelude.{not}
use Rattle.ocl_base.specs.Lists.{repeats}
use Rattle.rule_slots.specs.Slots.{lists_in, held_slots}
use Rattle.rule_slots.specs.Compared.{same_slots}
use Rattle.rule_slots.proofs.SlotOrder.{repeats_slots_moved}
use Rattle.rule_slots.proofs.sets.differ_by_copy.Goals as goal

pub returns-clause-told : goal.returns-clause-told
returns-clause-told c =
    let l = lists_in c.args.lists in
    let w = c.args.kind in
    let old = c.args.pool.now.items in
    let new = c.push_sorted-copy.new.pool.items in
    let copy = c.push_sorted-copy.result in
    ap not (c.repeats_slot-repeats.ensures ∙ ap (λ p. repeats (same_slots l w) (held_slots l p copy)) c.deref.ensures.value ∙ sym (repeats_slots_moved l w (held_slots l old c.args.source) (held_slots l new copy) c.push_sorted-copy.ensures.copy.moved))
