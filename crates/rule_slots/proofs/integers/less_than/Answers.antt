use Rattle.std.specs.Prelude.{int_lt}
use Rattle.rule_slots.proofs.Made.{tests_made}
use Rattle.rule_slots.proofs.integers.less_than.Goals as goal

pub returns : goal.returns
returns c = tests_made int_lt c.args.v c.args.w c.is_less.result c.if_both_plain.result c.if_both_plain.ensures c.is_less.ensures
