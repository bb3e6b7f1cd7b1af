use Rattle.std.specs.Prelude.{pos, int_div, ◌-ℤ◌, ◌*ℤ◌}
use Rattle.std.specs.Ordering.{int_eq}
use Rattle.rule_slots.proofs.Made.{integers_unless}
use Rattle.rule_slots.proofs.integers.remainder.Goals as goal

pub returns : goal.returns
returns c = integers_unless (λ a b. int_eq b (pos 0)) (λ a b. a -ℤ (int_div a b *ℤ b)) c.args.v c.args.w c.rest.result c.if_both_plain.result c.if_both_plain.ensures c.rest.ensures
