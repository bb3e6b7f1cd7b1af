use Rattle.std.proofs.Common.{sym, ap, ◌∙◌}
use Rattle.rule_slots.specs.declared.slot.Slot.{Slot}
use Rattle.rule_slots.specs.Slots.{lists_in}
use Rattle.rule_slots.specs.Ordered.{compare_slots, is_defined, may_precede, rises}
use Rattle.rule_slots.specs.Comparer.{slots_by, ignores_repeats}
use Rattle.rule_slots.proofs.SlotOrder.{same_listed, other_in_order}
use Rattle.rule_slots.proofs.comparing.told_by_order.Goals as goal

pub returns-then-pairwise_same : goal.returns-then-pairwise_same
returns-then-pairwise_same c =
    let v = c.args.comparer in
    sym (same_listed (lists_in v.lists) v.kind (ignores_repeats c.args.repeats) (slots_by v c.args.left) (slots_by v c.args.right) (sym c.pairwise_same.ensures ∙ c.if-pairwise_same.true))

pub returns-then-is_in_order-2 : goal.returns-then-is_in_order-2
returns-then-is_in_order-2 c =
    let v = c.args.comparer in
    let l = lists_in v.lists in
    let up = λ (s : Slot). ap (λ b. rises is_defined (λ x y. may_precede b (compare_slots l v.kind x y)) (slots_by v s)) (sym c.telling_order-order.ensures) in
    let left = up c.args.left ∙ sym c.is_in_order.ensures ∙ c.if-is_in_order.true in
    let right = up c.args.right ∙ sym c.is_in_order-then-is_in_order.ensures ∙ c.if-is_in_order-2.true in
    sym (other_in_order l v.kind (ignores_repeats c.args.repeats) (slots_by v c.args.left) (slots_by v c.args.right) left right (sym c.pairwise_same.ensures ∙ c.if-pairwise_same.false))
