use Rattle.std.proofs.Common.{sym, ap, ◌++◌, ◌∙◌}
use Rattle.ocl_base.specs.Lists.{repeats}
use Rattle.rule_slots.specs.Slots.{lists_in, held_slots}
use Rattle.rule_slots.specs.Compared.{same_slots}
use Rattle.rule_slots.proofs.SlotOrder.{set_of_all}
use Rattle.rule_slots.proofs.sets.push_set.Goals as goal

pub returns-then-all_differ-clause-items : goal.returns-then-all_differ-clause-items
returns-then-all_differ-clause-items c =
    let l = lists_in c.args.lists in
    let w = c.args.kind in
    let old = c.args.pool.now.items in
    let reserved = c.in_ok-reserve.ensures.items in
    let none = ap (λ p. repeats (same_slots l w) (held_slots l p c.args.source)) (sym reserved) ∙ c.all_differ.ensures.told c.if-all_differ.true in
    c.push_all.ensures.items ∙ ap (λ p. p ++ held_slots l p c.args.source) (c.all_differ.ensures.pool ∙ reserved) ∙ ap (λ z. old ++ z) (sym (set_of_all l w (held_slots l old c.args.source) none))
