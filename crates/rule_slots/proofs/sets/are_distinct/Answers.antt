use Rattle.std.proofs.Common.{ap, ◌∙◌}
use Rattle.std.specs.Prelude.{not}
use Rattle.rule_slots.specs.Slots.{lists_in, held_slots}
use Rattle.rule_slots.proofs.Alike.{repeats_is}
use Rattle.rule_slots.proofs.sets.are_distinct.Goals as goal

pub returns-clause-told : goal.returns-clause-told
returns-clause-told c = λ p k es cov h i.
    let l = lists_in c.args.lists in
    ap not (c.repeats_in_pool.ensures.told ∙ repeats_is l p c.args.kind k cov (held_slots l c.args.pool.now.items c.args.part) es h.elements i)
