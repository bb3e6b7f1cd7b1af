use Rattle.std.proofs.Common.{sym, ap, ◌∙◌, arith}
use Rattle.std.specs.Prelude.{not}
use Rattle.rule_slots.specs.declared.slot.Slot.{Slot}
use Rattle.rule_slots.specs.Slots.{lists_in}
use Rattle.rule_slots.specs.Ordered.{compare_slots, is_defined, may_precede}
use Rattle.rule_slots.specs.Comparer.{slots_by, is_strict}
use Rattle.rule_slots.proofs.Loops.{held_count, rises_invalid, rises_falls, rises_on, rises_last, rises_end}
use Rattle.rule_slots.proofs.ordering.is_in_order_in.Goals as goal
use Rattle.rule_slots.proofs.ordering.is_in_order_in.Goals.{then-index-source+else-not-may_precede, else-index-source}

pub returns-then-is_invalid : goal.returns-then-is_invalid
returns-then-is_invalid c =
    let v = c.args.comparer in
    let l = lists_in v.lists in
    let before = λ (a b : Slot). may_precede (is_strict c.args.order) (compare_slots l v.kind a b) in
    let held = slots_by v c.args.source in
    sym (c.loop-index.invariant ∙ rises_invalid is_defined before held c.loop-index.index c.element_in-slot.result c.element_in-slot.ensures (ap not (sym c.is_invalid.ensures ∙ c.if-is_invalid.true)))

pub returns-then-not-may_precede : goal.returns-then-not-may_precede
returns-then-not-may_precede c =
    let v = c.args.comparer in
    let l = lists_in v.lists in
    let before = λ (a b : Slot). may_precede (is_strict c.args.order) (compare_slots l v.kind a b) in
    let held = slots_by v c.args.source in
    sym (c.loop-index.invariant ∙ rises_falls is_defined before held c.loop-index.index c.element_in-slot.result c.element_in-next.result c.element_in-slot.ensures c.element_in-next.ensures
    (ap (may_precede (is_strict c.args.order)) (sym c.compare.ensures) ∙ sym c.may_precede.ensures ∙ c.if-not-may_precede.true))

pub loop-index-preserved : goal.loop-index-preserved
loop-index-preserved c =
    let v = c.args.comparer in
    let l = lists_in v.lists in
    let before = λ (a b : Slot). may_precede (is_strict c.args.order) (compare_slots l v.kind a b) in
    let held = slots_by v c.args.source in
    let valid = ap not (sym c.is_invalid.ensures ∙ c.if-is_invalid.false) in
    elim c.if-index-source.branch [
      | then-index-source+else-not-may_precede w ↦
          c.loop-index.invariant ∙ rises_on is_defined before held c.loop-index.index c.element_in-slot.result w.element_in-next.result c.element_in-slot.ensures w.element_in-next.ensures valid
          (ap (may_precede (is_strict c.args.order)) (sym w.compare.ensures) ∙ sym w.may_precede.ensures ∙ w.if-not-may_precede.false)
      | else-index-source w ↦
          c.loop-index.invariant ∙ rises_last is_defined before held c.loop-index.index c.element_in-slot.result c.element_in-slot.ensures (omega (arith, held_count v c.args.source c.requires.home, w.if-index-source.false)) valid
    ]

pub returns : goal.returns
returns c =
    let v = c.args.comparer in
    let l = lists_in v.lists in
    let before = λ (a b : Slot). may_precede (is_strict c.args.order) (compare_slots l v.kind a b) in
    sym (c.loop-index.invariant ∙ rises_end is_defined before (slots_by v c.args.source) c.loop-index.index (omega (arith, held_count v c.args.source c.requires.home, c.loop-index-test.false)))
