use Rattle.rule_slots.specs.Slots.{lists_in}
use Rattle.rule_slots.proofs.Copies.{part_moved}
use Rattle.rule_slots.proofs.sorting.sort_part.Goals as goal

pub returns-clause-moved : goal.returns-clause-moved
returns-clause-moved c =
    part_moved (lists_in c.args.lists) c.args.pool.now.items c.sort_slots.new.slots c.deref_mut.result.now _ c.args.part c.args.pool.now.len c.requires.pool c.requires.within c.deref_mut.ensures.value c.args.pool.now.ok.0 c.sort_slots.ensures
