use Rattle.std.proofs.Common.{◌≤◌, ◌++◌, ◌∷◌, [], length, take, refl, sym, ap, ◌∙◌, arith, append_assoc, append-nil, length-append}
use Rattle.std.specs.Prelude.{slice_get}
use Rattle.rule_slots.specs.Slots.{lists_in, held_slots}
use Rattle.rule_slots.proofs.Pool.{within_grown, held_same, grows}
use Rattle.rule_slots.proofs.Loops.{held_long, take_next, all_taken}
use Rattle.rule_slots.proofs.sorting.push_all.Goals as goal

pub loop-index-init : goal.loop-index-init
loop-index-init c = (sym (append-nil c.args.pool.now.items), omega (arith, c.requires.room), refl)

pub element-slot-requires-clause-within : goal.element-slot-requires-clause-within
element-slot-requires-clause-within c =
    let l = lists_in c.args.lists in
    let old = c.args.pool.now.items in
    let so_far = take c.loop-index.index (held_slots l old c.args.source) in
    let long = ap length (c.deref.ensures.value ∙ c.loop-index.invariant.0) in
    within_grown l old c.loop-index.pool.items (length old) (length c.deref.result.now) (omega (arith, long, length-append old so_far)) (grows old so_far (length old) (omega arith) ∙ ap (take (length old)) (sym c.loop-index.invariant.0)) c.args.source c.requires.within

pub push_reserved-requires : goal.push_reserved-requires
push_reserved-requires c = omega (arith, c.loop-index.invariant.1, c.loop-index.pool.ok.0, c.loop-index-test.true)

pub loop-index-preserved : goal.loop-index-preserved
loop-index-preserved c =
    let l = lists_in c.args.lists in
    let old = c.args.pool.now.items in
    let held = held_slots l old c.args.source in
    let slot = c.element-slot.result in
    let n = c.loop-index.index in
    let so_far = take n held in
    let put = c.loop-index.invariant.0 in
    let grown = grows old so_far (length old) (omega arith) ∙ ap (take (length old)) (sym (c.deref.ensures.value ∙ put)) in
    let more : length old ≤ length c.deref.result.now = omega (arith, ap length (c.deref.ensures.value ∙ put), length-append old so_far) in
    let read = ap (λ z. slice_get z n) (held_same l old c.deref.result.now (length old) (length c.deref.result.now) more grown c.args.source c.requires.within) ∙ c.element-slot.ensures in (
      c.push_reserved.ensures.items ∙ ap (λ z. z ++ slot ∷ []) put ∙ append_assoc old so_far (slot ∷ []) ∙ ap (λ z. old ++ z) (sym (take_next held n slot read)),
      omega (arith, c.loop-index.invariant.1, c.loop-index-test.true, c.push_reserved.ensures.capacity, ap length c.push_reserved.ensures.items, length-append c.loop-index.pool.items (slot ∷ [])),
      c.push_reserved.ensures.capacity ∙ c.loop-index.invariant.2,
    )

pub returns-clause-items : goal.returns-clause-items
returns-clause-items c =
    let l = lists_in c.args.lists in
    let old = c.args.pool.now.items in
    let held = held_slots l old c.args.source in
    let long = held_long l old c.args.source c.requires.within in
    c.loop-index.invariant.0 ∙ ap (λ z. old ++ z) (all_taken held c.loop-index.index (omega (arith, long, c.loop-index-test.false)))
