use Rattle.std.specs.Int.{int_min}
use Rattle.rule_slots.proofs.Made.{integers_made}
use Rattle.rule_slots.proofs.integers.lesser.Goals as goal

pub returns : goal.returns
returns c = integers_made int_min c.args.v c.args.w c.smaller.result c.if_both_plain.result c.if_both_plain.ensures c.smaller.ensures
