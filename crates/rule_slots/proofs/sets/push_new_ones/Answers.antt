use Rattle.std.proofs.Common.{◌≡◌, List, ◌∷◌, ◌++◌, [], length, take, vec_capacity, refl, sym, ap, ◌∙◌, subst, arith, append_assoc, append-nil, length-append}
use Rattle.std.specs.Prelude.{slice_get}
use Rattle.rule_slots.specs.declared.slot.Slot.{Slot}
use Rattle.rule_slots.specs.Slots.{lists_in, held_slots}
use Rattle.rule_slots.specs.Compared.{same_slots}
use Rattle.rule_slots.specs.Sorted.{IsSameBefore}
use Rattle.rule_slots.proofs.Pool.{held_same, grows}
use Rattle.rule_slots.proofs.Loops.{held_long, first_taken, first_new, first_end}
use Rattle.rule_slots.proofs.Choosing.{known_before, left_out, taken_too, none_repeats}
use Rattle.rule_slots.proofs.SlotOrder.{same_both_ways, same_as_same}
use Rattle.rule_slots.proofs.sets.push_new_ones.Goals as goal
use Rattle.rule_slots.proofs.sets.push_new_ones.Goals.{then-not-stands_before, else-not-stands_before}

pub loop-index-init : goal.loop-index-init
loop-index-init c = (
  record { taken = []; put = sym (append-nil c.args.pool.now.items); known = λ z e. e; first = λ e. refl; room = omega (arith, c.requires.room); long = omega arith },
  refl,
  c.len-opened.ensures ∙ c.args.pool.now.ok.0,
)

pub loop-index-preserved : goal.loop-index-preserved
loop-index-preserved c =
    let i = c.loop-index.invariant.0 in
    let l = lists_in c.args.lists in
    let w = c.args.kind in
    let same = same_slots l w in
    let back = same_both_ways l w in
    let alike = same_as_same l w in
    let old = c.args.pool.now.items in
    let held = held_slots l old c.args.source in
    let slot = c.element-slot.result in
    let n = c.loop-index.index in
    let kept = λ (p : List Slot) (e : p ≡ old ++ i.taken). held_same l old p (length old) (length p) (omega (arith, ap length e, length-append old i.taken)) (grows old i.taken (length old) (omega arith) ∙ ap (take (length old)) (sym e)) c.args.source c.requires.within in
    let read = ap (λ z. slice_get z n) (kept c.deref.result.now (c.deref.ensures.value ∙ i.put)) ∙ c.element-slot.ensures in
    let other = kept c.deref-in-loop-index-2.result.now (c.deref-in-loop-index-2.ensures.value ∙ i.put) in
    elim c.if-not-stands_before.branch [
      | then-not-stands_before v ↦ (
        record {
          taken = i.taken ++ slot ∷ [];
          put = ap (λ z. z.items) v.pool-is ∙ v.push_reserved.ensures.items ∙ ap (λ z. z ++ slot ∷ []) i.put ∙ append_assoc old i.taken (slot ∷ []);
          known = taken_too same back alike held i.taken n slot read i.known;
          first = λ e. let none = none_repeats same back alike i.taken slot e in sym (first_new same i.taken held n slot read none.1) ∙ i.first none.0;
          room = omega (arith, i.room, c.loop-index-test.true, v.push_reserved.ensures.capacity, ap vec_capacity v.pool-is, ap (λ z. length z.items) v.pool-is, ap length v.push_reserved.ensures.items, length-append c.loop-index.pool.items (slot ∷ []));
          long = omega (arith, i.long, length-append i.taken (slot ∷ []));
        },
        ap vec_capacity v.pool-is ∙ v.push_reserved.ensures.capacity ∙ c.loop-index.invariant.1,
        c.loop-index.invariant.2,
      )
      | else-not-stands_before v ↦ (
          let before = subst (λ xs. IsSameBefore same xs n c.first_place-place.result) (sym other) (c.stands_before.ensures v.if-not-stands_before.false) in
          let among = known_before same back alike held i.taken n slot read i.known c.first_place-place.result before in (
            record {
              taken = i.taken;
              put = ap (λ z. z.items) v.pool-is ∙ i.put;
              known = left_out same back alike held i.taken n slot read i.known among;
              first = λ e. sym (first_taken same i.taken held n slot read among) ∙ i.first e;
              room = omega (arith, i.room, ap vec_capacity v.pool-is, ap (λ z. length z.items) v.pool-is);
              long = omega (arith, i.long);
            },
            ap vec_capacity v.pool-is ∙ c.loop-index.invariant.1,
            c.loop-index.invariant.2,
          )
          )
    ]

pub returns-clause-chosen : goal.returns-clause-chosen
returns-clause-chosen c =
    let i = c.loop-index.invariant.0 in
    let l = lists_in c.args.lists in
    let held = held_slots l c.args.pool.now.items c.args.source in
    let long = held_long l c.args.pool.now.items c.args.source c.requires.within in
    record {
      taken = i.taken;
      put = i.put;
      first = λ e. sym (first_end (same_slots l c.args.kind) i.taken held c.loop-index.index (omega (arith, long, c.loop-index-test.false))) ∙ i.first e;
    }
