use Rattle.std.specs.Prelude.{neg_ℤ}
use Rattle.std.specs.Int.{int_max}
use Rattle.rule_slots.proofs.Made.{integer_made}
use Rattle.rule_slots.proofs.integers.absolute.Goals as goal

pub returns : goal.returns
returns c = integer_made (λ a. int_max a (neg_ℤ a)) c.args.v c.size.result c.if_plain.result c.if_plain.ensures c.size.ensures
