use Rattle.std.proofs.Common.{length, sym, ◌∙◌}
use Rattle.rule_slots.specs.Slots.{lists_in}
use Rattle.rule_slots.proofs.Equal.{sum_is}
use Rattle.rule_slots.proofs.sums.summation.Goals as goal

pub returns-then-is_plain : goal.returns-then-is_plain
returns-then-is_plain c = λ p v h i.
    let pool = c.args.pool.now in
    sum_is (lists_in c.args.lists) p pool (length pool) c.args.v c.sum_slot.result (sym c.is_plain.ensures ∙ c.if-is_plain.true) c.sum_slot.ensures v h i
