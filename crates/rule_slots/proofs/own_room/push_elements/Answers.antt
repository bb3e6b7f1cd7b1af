use Rattle.std.proofs.Common.{◌++◌, ◌∷◌, [], length, take, refl, sym, ap, ◌∙◌, arith, append_assoc, append-nil, length-append}
use Rattle.rule_slots.specs.Slots.{lists_in, held_slots}
use Rattle.rule_slots.proofs.Loops.{held_long, take_next, all_taken}
use Rattle.rule_slots.proofs.own_room.push_elements.Goals as goal

pub loop-index-init : goal.loop-index-init
loop-index-init c = (sym (append-nil c.args.room.now.items), omega (arith, c.requires.room), refl)

pub push_reserved-requires : goal.push_reserved-requires
push_reserved-requires c = omega (arith, c.loop-index.invariant.1, c.loop-index.room.ok.0, c.loop-index-test.true)

pub loop-index-preserved : goal.loop-index-preserved
loop-index-preserved c =
    let old = c.args.room.now.items in
    let held = held_slots (lists_in c.args.lists) c.args.pool.now c.args.source in
    let slot = c.element-slot.result in
    let n = c.loop-index.index in
    let so_far = take n held in (
      c.push_reserved.ensures.items ∙ ap (λ z. z ++ slot ∷ []) c.loop-index.invariant.0 ∙ append_assoc old so_far (slot ∷ []) ∙ ap (λ z. old ++ z) (sym (take_next held n slot c.element-slot.ensures)),
      omega (arith, c.loop-index.invariant.1, c.loop-index-test.true, c.push_reserved.ensures.capacity, ap length c.push_reserved.ensures.items, length-append c.loop-index.room.items (slot ∷ [])),
      c.push_reserved.ensures.capacity ∙ c.loop-index.invariant.2,
    )

pub returns-clause-items : goal.returns-clause-items
returns-clause-items c =
    let l = lists_in c.args.lists in
    let held = held_slots l c.args.pool.now c.args.source in
    let long = held_long l c.args.pool.now c.args.source c.requires.within in
    c.loop-index.invariant.0 ∙ ap (λ z. c.args.room.now.items ++ z) (all_taken held c.loop-index.index (omega (arith, long, c.loop-index-test.false)))
