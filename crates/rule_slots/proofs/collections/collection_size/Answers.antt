use Rattle.rule_slots.proofs.Made.{size_made}
use Rattle.rule_slots.proofs.collections.collection_size.Goals as goal

pub returns : goal.returns
returns c = size_made c.args.v c.count_slot.result c.if_plain.result c.if_plain.ensures c.count_slot.ensures
