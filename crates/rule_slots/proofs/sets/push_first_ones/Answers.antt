use Rattle.std.proofs.Common.{◌≡◌, ◌≤◌, ◌+◌, ◌-◌, ◌++◌, ◌∷◌, [], length, take, vec_capacity, refl, sym, ap, ◌∙◌, subst, arith, append_assoc, append-nil, length-append}
use Rattle.std.specs.Prelude.{slice_get}
use Rattle.rule_slots.specs.Slots.{lists_in, held_slots, IsInHome}
use Rattle.rule_slots.specs.Compared.{same_slots}
use Rattle.ocl_base.specs.Lists.{is_among}
use Rattle.rule_slots.proofs.Pool.{within_grown, held_same, grows}
use Rattle.rule_slots.proofs.Loops.{held_long, first_taken, first_new, first_end, taken_are}
use Rattle.rule_slots.proofs.sets.push_first_ones.Goals as goal
use Rattle.rule_slots.proofs.sets.push_first_ones.Goals.{then-not-is_slot_among, else-not-is_slot_among}

pub loop-index-init : goal.loop-index-init
loop-index-init c =
    record { taken = []; put = sym (append-nil c.args.pool.now.items); first = refl; opened_at = c.len-opened.ensures ∙ c.args.pool.now.ok.0; room = omega (arith, c.requires.room) }

pub element-slot-requires-clause-within : goal.element-slot-requires-clause-within
element-slot-requires-clause-within c =
    let i = c.loop-index.invariant in
    let old = c.args.pool.now.items in
    let long = ap length (c.deref.ensures.value ∙ i.put) in
    within_grown (lists_in c.args.lists) old c.loop-index.pool.items (length old) (length c.deref.result.now) (omega (arith, long, length-append old i.taken)) (grows old i.taken (length old) (omega arith) ∙ ap (take (length old)) (sym i.put)) c.args.source c.requires.within

pub overflow_sub-len : goal.overflow_sub-len
overflow_sub-len c =
    let i = c.loop-index.invariant in
    omega (arith, c.len.ensures, c.loop-index.pool.ok.0, i.opened_at, ap length i.put, length-append c.args.pool.now.items i.taken)

pub is_slot_among-requires : goal.is_slot_among-requires
is_slot_among-requires c =
    let i = c.loop-index.invariant in
    let old = c.args.pool.now.items in
    let n : c.len-opened.result + (c.len.result - c.len-opened.result) ≤ length c.deref-in-loop-index.result.now =
    omega (arith, c.len.ensures, c.loop-index.pool.ok.0, i.opened_at, ap length i.put, length-append old i.taken, ap length c.deref-in-loop-index.ensures.value) in
    subst (IsInHome (lists_in c.args.lists) (length c.deref-in-loop-index.result.now)) (sym c.part_slot-taken.ensures) n

pub push_reserved-requires : goal.push_reserved-requires
push_reserved-requires c = omega (arith, c.loop-index.invariant.room, c.loop-index.pool.ok.0, c.loop-index-test.true)

pub loop-index-preserved : goal.loop-index-preserved
loop-index-preserved c =
    let i = c.loop-index.invariant in
    let l = lists_in c.args.lists in
    let same = same_slots l c.args.kind in
    let old = c.args.pool.now.items in
    let held = held_slots l old c.args.source in
    let slot = c.element-slot.result in
    let n = c.loop-index.index in
    let whole = ap length i.put in
    let grown = grows old i.taken (length old) (omega arith) ∙ ap (take (length old)) (sym (c.deref.ensures.value ∙ i.put)) in
    let more : length old ≤ length c.deref.result.now = omega (arith, ap length (c.deref.ensures.value ∙ i.put), length-append old i.taken) in
    let read = ap (λ z. slice_get z n) (held_same l old c.deref.result.now (length old) (length c.deref.result.now) more grown c.args.source c.requires.within) ∙ c.element-slot.ensures in
    let part = c.part_slot-taken in
    let count : c.len.result - c.len-opened.result ≡ length i.taken = omega (arith, c.len.ensures, c.loop-index.pool.ok.0, i.opened_at, whole, length-append old i.taken) in
    let those = ap (λ z. held_slots l z part.result) (c.deref-in-loop-index.ensures.value ∙ i.put) ∙ taken_are l old i.taken part.result (ap (λ z. z.list) part.ensures) (ap (λ z. z.start) part.ensures ∙ i.opened_at) (ap (λ z. z.count) part.ensures ∙ count) in
    let among = ap (λ z. is_among same z slot) (sym those) ∙ sym c.is_slot_among.ensures in
    elim c.if-not-is_slot_among.branch [
      | then-not-is_slot_among w ↦ record {
        taken = i.taken ++ slot ∷ [];
        put = ap (λ z. z.items) w.pool-is ∙ w.push_reserved.ensures.items ∙ ap (λ z. z ++ slot ∷ []) i.put ∙ append_assoc old i.taken (slot ∷ []);
        first = sym (first_new same i.taken held n slot read (among ∙ w.if-not-is_slot_among.true)) ∙ i.first;
        opened_at = i.opened_at;
        room = omega (arith, i.room, c.loop-index-test.true, w.push_reserved.ensures.capacity, ap vec_capacity w.pool-is, ap (λ z. length z.items) w.pool-is, ap length w.push_reserved.ensures.items, length-append c.loop-index.pool.items (slot ∷ []));
      }
      | else-not-is_slot_among w ↦ record {
        taken = i.taken;
        put = ap (λ z. z.items) w.pool-is ∙ i.put;
        first = sym (first_taken same i.taken held n slot read (among ∙ w.if-not-is_slot_among.false)) ∙ i.first;
        opened_at = i.opened_at;
        room = omega (arith, i.room, ap vec_capacity w.pool-is, ap (λ z. length z.items) w.pool-is);
      }
    ]

pub returns : goal.returns
returns c =
    let i = c.loop-index.invariant in
    let l = lists_in c.args.lists in
    let old = c.args.pool.now.items in
    let held = held_slots l old c.args.source in
    let long = held_long l old c.args.source c.requires.within in
    i.put ∙ ap (λ z. old ++ z) (sym (first_end (same_slots l c.args.kind) i.taken held c.loop-index.index (omega (arith, long, c.loop-index-test.false))) ∙ i.first)
