use Rattle.std.specs.Prelude.{neg_ℤ}
use Rattle.rule_slots.proofs.Made.{integer_made}
use Rattle.rule_slots.proofs.integers.negative.Goals as goal

pub returns : goal.returns
returns c = integer_made neg_ℤ c.args.v c.opposite.result c.if_plain.result c.if_plain.ensures c.opposite.ensures
