use Rattle.std.proofs.Common.{◌∷◌, [], length, take, refl, sym, ap, ◌∙◌, arith, length-append}
use Rattle.std.proofs.lemmas.List.{take-append-le}
use Rattle.rule_slots.specs.Slots.{lists_in}
use Rattle.rule_slots.proofs.Pool.{within_grown}
use Rattle.rule_slots.proofs.Loops.{all_taken}
use Rattle.rule_slots.proofs.placing.push_in_places.Goals as goal

pub loop-index-init : goal.loop-index-init
loop-index-init c = let old = c.args.pool.now.items in (all_taken old (length old) (omega arith), omega arith, refl)

pub element-slot-requires-clause-within : goal.element-slot-requires-clause-within
element-slot-requires-clause-within c =
    let old = c.args.pool.now.items in
    let i = c.loop-index.invariant in
    let now = c.deref.result.now in
    within_grown (lists_in c.args.lists) old now (length old) (length now) (omega (arith, ap length c.deref.ensures.value, i.1)) (all_taken old (length old) (omega arith) ∙ sym i.0 ∙ ap (take (length old)) (sym c.deref.ensures.value)) c.args.source c.requires.within

pub push_reserved-requires : goal.push_reserved-requires
push_reserved-requires c = omega (arith, c.requires.room, c.loop-index.invariant.1, c.loop-index.invariant.2, c.loop-index.pool.ok.0, c.loop-index-test.true)

pub loop-index-preserved : goal.loop-index-preserved
loop-index-preserved c =
    let old = c.args.pool.now.items in
    let i = c.loop-index.invariant in
    let p = c.loop-index.pool.items in
    let s = c.with_index.result in (
      ap (take (length old)) c.push_reserved.ensures.items ∙ take-append-le (length old) p (s ∷ []) (omega (arith, i.1)) ∙ i.0,
      omega (arith, ap length c.push_reserved.ensures.items, length-append p (s ∷ []), i.1),
      c.push_reserved.ensures.capacity ∙ i.2,
    )
