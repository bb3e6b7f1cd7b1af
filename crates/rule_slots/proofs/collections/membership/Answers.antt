use Rattle.std.proofs.Common.{length, sym, ap, ◌∙◌, subst}
use Rattle.std.specs.Prelude.{not, ◌&&◌}
use Rattle.std.proofs.lemmas.Bool.{and_from}
use Rattle.rule_values.specs.Operations.{membership}
use Rattle.rule_slots.specs.Slots.{lists_in, SlotIs, plain_mark, invalid_mark, truth_slot, invalid_slot}
use Rattle.rule_slots.proofs.Equal.{membership_is, passes}
use Rattle.rule_slots.proofs.collections.membership.Goals as goal

pub returns-then-not-is_invalid : goal.returns-then-not-is_invalid
returns-then-not-is_invalid c = λ p k cov v w h g i j.
    let l = lists_in c.args.lists in
    let pool = c.args.pool.now in
    let test = and_from _ _ (sym c.is_plain.ensures ∙ c.if-is_plain.true) (ap not (sym c.is_invalid.ensures ∙ c.if-not-is_invalid.true)) in
    subst (λ z. SlotIs l pool (length pool) z (membership v w)) (passes (plain_mark c.args.v.mark && not (invalid_mark c.args.w.mark)) c.truth_slot.result _ invalid_slot test (c.truth_slot.ensures ∙ ap truth_slot c.is_slot_among.ensures))
    (membership_is l p pool (length pool) c.args.kind k cov c.args.v c.args.w v w h g i j)
