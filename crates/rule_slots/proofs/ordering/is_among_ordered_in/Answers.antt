use Rattle.std.proofs.Common.{sym, ap, ◌∙◌, ◌+◌, ◌-◌, ◌/◌, is_lt, arith}
use Rattle.rule_slots.specs.Slots.{lists_in}
use Rattle.rule_slots.specs.Ordered.{compare_slots, is_defined}
use Rattle.rule_slots.specs.Comparer.{same_by, slots_by}
use Rattle.rule_slots.proofs.Loops.{held_count}
use Rattle.rule_slots.proofs.InOrder.{get_within, raised, lowered, past_all, stands_at}
use Rattle.rule_slots.proofs.SlotOrder.{slots_total, slots_tie, slots_like}
use Rattle.rule_slots.proofs.ordering.is_among_ordered_in.Goals as goal

pub loop-low-init : goal.loop-low-init
loop-low-init c =
    let long = held_count c.args.comparer c.args.source c.requires.home in
    record {
      ordered = omega arith;
      within = omega (arith, long);
      before = λ k y lt at. absurd (omega (arith, lt));
      after = λ k y le at. absurd (omega (arith, long, le, get_within (slots_by c.args.comparer c.args.source) k y at));
    }

pub element_in-found-requires-clause-index : goal.element_in-found-requires-clause-index
element_in-found-requires-clause-index c =
    omega (arith, c.loop-low-test.true, c.loop-low.invariant.within, held_count c.args.comparer c.args.source c.requires.home)

pub loop-low-preserved-then-is_lt : goal.loop-low-preserved-then-is_lt
loop-low-preserved-then-is_lt c =
    let v = c.args.comparer in
    let l = lists_in v.lists in
    let w = v.kind in
    let held = slots_by v c.args.source in
    raised (compare_slots l w) (slots_total l w) (same_by v) is_defined (slots_tie l w) (slots_like l w) held c.requires.order c.args.slot c.loop-low.low c.loop-low.high (c.loop-low.low + (c.loop-low.high - c.loop-low.low) / 2) c.element_in-found.result c.loop-low.invariant
    (omega (arith, c.loop-low-test.true)) c.element_in-found.ensures (ap is_lt (sym c.compare.ensures) ∙ sym c.is_lt.ensures ∙ c.if-is_lt.true)

pub loop-low-preserved : goal.loop-low-preserved
loop-low-preserved c =
    let v = c.args.comparer in
    let l = lists_in v.lists in
    let w = v.kind in
    let held = slots_by v c.args.source in
    lowered (compare_slots l w) (slots_total l w) (same_by v) is_defined (slots_tie l w) (slots_like l w) held c.requires.order c.args.slot c.loop-low.low c.loop-low.high (c.loop-low.low + (c.loop-low.high - c.loop-low.low) / 2) c.element_in-found.result c.loop-low.invariant
    (omega arith) (omega (arith, c.loop-low-test.true)) c.element_in-found.ensures (ap is_lt (sym c.compare.ensures) ∙ sym c.is_lt.ensures ∙ c.if-is_lt.false)

pub returns-then-low-source : goal.returns-then-low-source
returns-then-low-source c =
    let v = c.args.comparer in
    let l = lists_in v.lists in
    let w = v.kind in
    let held = slots_by v c.args.source in
    sym (past_all (compare_slots l w) (slots_total l w) (same_by v) is_defined (slots_tie l w) (slots_like l w) held c.requires.order c.args.slot c.loop-low.low c.loop-low.high c.loop-low.invariant (c.if-low-source.true ∙ sym (held_count v c.args.source c.requires.home)))

pub element_in-found-requires-2-clause-index : goal.element_in-found-requires-2-clause-index
element_in-found-requires-2-clause-index c =
    omega (arith, c.if-low-source.false, c.loop-low.invariant.ordered, c.loop-low.invariant.within, held_count c.args.comparer c.args.source c.requires.home)

pub returns : goal.returns
returns c =
    let v = c.args.comparer in
    let l = lists_in v.lists in
    let w = v.kind in
    let held = slots_by v c.args.source in
    c.is_same.ensures ∙ stands_at (compare_slots l w) (slots_total l w) (same_by v) is_defined (slots_tie l w) (slots_like l w) held c.requires.order c.args.slot c.loop-low.low c.loop-low.high c.element_in-found-2.result c.loop-low.invariant (omega (arith, c.loop-low-test.false)) c.element_in-found-2.ensures
