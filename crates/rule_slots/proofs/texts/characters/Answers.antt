use Rattle.std.proofs.Common.{length, refl, sym, ap, ◌∙◌, subst}
use Rattle.std.specs.Prelude.{slice_range}
use Rattle.rule_values.specs.Operations.{characters}
use Rattle.rule_slots.specs.Slots.{lists_in, SlotIs, TextIs, invalid_slot}
use Rattle.rule_slots.specs.Cut.{bounds_in}
use Rattle.rule_slots.proofs.Characters.{bounds_none, bounds_some}
use Rattle.rule_slots.proofs.Taken.{plain_is}
use Rattle.rule_slots.proofs.texts.characters.Goals as goal

pub returns-in_default : goal.returns-in_default
returns-in_default c = λ pool t h.
    let l = lists_in c.args.lists in
    let a = c.args.lower.number in
    let b = c.args.upper.number in
    let none = ap (λ n. bounds_in n a b) (sym (c.length_of.ensures t h)) ∙ sym c.slot_bounds.ensures ∙ c.in_default.is in
    subst (λ z. SlotIs l pool (length pool) z (characters t a b)) (sym c.invalid_slot.ensures) (subst (SlotIs l pool (length pool) invalid_slot) (sym (bounds_none t a b none)) refl)

pub returns-then-is_cut_by_bytes : goal.returns-then-is_cut_by_bytes
returns-then-is_cut_by_bytes c = λ pool t h.
    let l = lists_in c.args.lists in
    let a = c.args.lower.number in
    let b = c.args.upper.number in
    let from = c.in-Some.from in
    let to = c.in-Some.to in
    let some = bounds_some t a b from to (ap (λ n. bounds_in n a b) (sym (c.length_of.ensures t h)) ∙ sym c.slot_bounds.ensures ∙ c.in-Some.is) in
    let by_bytes = c.if-is_cut_by_bytes.true in
    let part = c.cut_by_bytes.ensures.text l t h (c.is_cut_by_bytes.ensures.single by_bytes t h) some.2 (c.is_cut_by_bytes.ensures.room by_bytes t h) in
    subst (SlotIs l pool (length pool) c.cut_by_bytes.result) (sym some.0) (plain_is c.cut_by_bytes.result.mark c.cut_by_bytes.ensures.mark, part)

pub returns : goal.returns
returns c = λ pool t h.
    let l = lists_in c.args.lists in
    let a = c.args.lower.number in
    let b = c.args.upper.number in
    let from = c.in-Some.from in
    let to = c.in-Some.to in
    let same = c.text_of.ensures.text t h in
    let some = bounds_some t a b from to (ap (λ n. bounds_in n a b) (sym (c.length_of.ensures t h)) ∙ sym c.slot_bounds.ensures ∙ c.in-Some.is) in
    let part = subst (λ x. TextIs l c.cut.result (slice_range x from to)) same (c.cut.ensures.text l (subst (TextIs l c.args.v) (sym same) h)) in
    subst (SlotIs l pool (length pool) c.cut.result) (sym some.0) (plain_is c.cut.result.mark c.cut.ensures.mark, part)
