use Rattle.std.specs.Prelude.{int_le}
use Rattle.rule_slots.proofs.Made.{tests_made}
use Rattle.rule_slots.proofs.integers.at_most.Goals as goal

pub returns : goal.returns
returns c = tests_made int_le c.args.v c.args.w c.is_at_most.result c.if_both_plain.result c.if_both_plain.ensures c.is_at_most.ensures
