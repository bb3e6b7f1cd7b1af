use Rattle.std.proofs.Common.{length, sym, ap, ◌∙◌}
use Rattle.rule_slots.specs.Slots.{lists_in, truth_slot}
use Rattle.rule_slots.proofs.Equal.{equality_is}
use Rattle.rule_slots.proofs.comparing.equality.Goals as goal

pub returns-clause-made : goal.returns-clause-made
returns-clause-made c = λ p k cov v w h g i j.
    let pool = c.args.pool.now.items in
    equality_is (lists_in c.args.lists) p pool (length pool) c.args.kind k cov c.args.v c.args.w c.truth_slot.result (sym c.is_invalid.ensures ∙ c.if-is_invalid.false) (sym c.is_invalid-else-is_invalid.ensures ∙ c.if-is_invalid-2.false)
    (c.truth_slot.ensures ∙ ap truth_slot c.same_values.ensures.told) v w h g i j
