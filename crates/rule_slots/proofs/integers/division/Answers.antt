use Rattle.std.specs.Prelude.{pos, int_div}
use Rattle.std.specs.Ordering.{int_eq}
use Rattle.rule_slots.proofs.Made.{integers_unless}
use Rattle.rule_slots.proofs.integers.division.Goals as goal

pub returns : goal.returns
returns c = integers_unless (λ a b. int_eq b (pos 0)) int_div c.args.v c.args.w c.quotient.result c.if_both_plain.result c.if_both_plain.ensures c.quotient.ensures
