use Rattle.std.specs.Int.{int_max}
use Rattle.rule_slots.proofs.Made.{integers_made}
use Rattle.rule_slots.proofs.integers.greater.Goals as goal

pub returns : goal.returns
returns c = integers_made int_max c.args.v c.args.w c.larger.result c.if_both_plain.result c.if_both_plain.ensures c.larger.ensures
