use Rattle.std.proofs.Common.{length, sym, ap, ◌∙◌, subst}
use Rattle.std.specs.Prelude.{◌&&◌}
use Rattle.std.proofs.lemmas.Bool.{and_from}
use Rattle.rule_values.specs.Operations.{inclusion}
use Rattle.rule_slots.specs.Slots.{lists_in, SlotIs, plain_mark, truth_slot, invalid_slot}
use Rattle.rule_slots.proofs.Equal.{inclusion_is, passes}
use Rattle.rule_slots.proofs.collections.inclusion.Goals as goal

pub returns-then-is_plain-2-clause-made : goal.returns-then-is_plain-2-clause-made
returns-then-is_plain-2-clause-made c = λ p k cov v w h g i j.
    let l = lists_in c.args.lists in
    let pool = c.args.pool.now.items in
    let test = and_from _ _ (sym c.is_plain.ensures ∙ c.if-is_plain.true) (sym c.is_plain-then-is_plain.ensures ∙ c.if-is_plain-2.true) in
    subst (λ z. SlotIs l pool (length pool) z (inclusion v w)) (passes (plain_mark c.args.v.mark && plain_mark c.args.w.mark) c.truth_slot.result _ invalid_slot test (c.truth_slot.ensures ∙ ap truth_slot c.are_among.ensures.told))
    (inclusion_is l p pool (length pool) c.args.kind k cov c.args.v c.args.w v w h g i j)
