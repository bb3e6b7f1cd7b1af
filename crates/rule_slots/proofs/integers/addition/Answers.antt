use Rattle.std.specs.Prelude.{◌+ℤ◌}
use Rattle.rule_slots.proofs.Made.{integers_made}
use Rattle.rule_slots.proofs.integers.addition.Goals as goal

pub returns : goal.returns
returns c = integers_made (λ a b. a +ℤ b) c.args.v c.args.w c.sum.result c.if_both_plain.result c.if_both_plain.ensures c.sum.ensures
