use Rattle.std.proofs.Common.{sym, ◌∙◌}
use Rattle.rule_slots.specs.Slots.{lists_in}
use Rattle.rule_slots.proofs.Equal.{set_is}
use Rattle.rule_slots.proofs.sets.as_set.Goals as goal

pub returns-clause-made : goal.returns-clause-made
returns-clause-made c = λ p k cov v h i.
    let l = lists_in c.args.lists in
    let old = c.args.pool.now.items in
    let new = c.push_set.new.pool in
    set_is l p c.args.kind k cov old new.items c.args.v c.part_slot.result c.len-start.result c.len.result c.in_ok-push_set.ensures.items (c.len-start.ensures ∙ c.args.pool.now.ok.0) (c.len.ensures ∙ new.ok.0) c.part_slot.ensures (sym c.is_plain.ensures ∙ c.if-not-is_plain.false) v h i
