use Rattle.rule_slots.proofs.Made.{empty_made}
use Rattle.rule_slots.proofs.collections.emptiness.Goals as goal

pub returns : goal.returns
returns c = empty_made c.args.v c.truth_slot.result c.if_plain.result c.if_plain.ensures c.truth_slot.ensures
