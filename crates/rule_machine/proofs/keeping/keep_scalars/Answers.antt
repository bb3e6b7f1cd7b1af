use Rattle.std.proofs.Common.{◌≡◌, ◌+◌, ◌++◌, ◌∷◌, [], length, take, get_or, sym, ap, ◌∙◌, refl, arith, append_assoc, append-nil, length-append}
use Rattle.std.specs.Prelude.{slice_range}
use Rattle.std.proofs.lemmas.List.{length-take-le}
use Rattle.rule_slots.specs.Slots.{lists_in, scalar_slot, scalar_slots}
use Rattle.rule_slots.proofs.ForAbove.{scalars_more, range_none}
use Rattle.rule_machine.proofs.keeping.keep_scalars.Goals as goal

pub loop-offset-init : goal.loop-offset-init
loop-offset-init c =
    let e = c.truncate.ensures.items ∙ ap (take c.args.at) c.in_ok-reserve.ensures.items in
    record {
      put = e ∙ sym (append-nil (take c.args.at c.args.pool.now.items)) ∙ ap (λ x. take c.args.at c.args.pool.now.items ++ scalar_slots c.args.value.start x) (sym (range_none (lists_in c.args.lists).scalars c.args.value.start));
      long = ap length e ∙ length-take-le c.args.at c.args.pool.now.items c.requires.at ∙ omega arith;
      room = omega (arith, c.in_ok-reserve.ensures.ok, c.in_ok-reserve.ensures.len, c.requires.at, c.truncate.ensures.capacity, c.args.pool.now.ok.0);
    }

pub loop-offset-preserved : goal.loop-offset-preserved
loop-offset-preserved c =
    let i = c.loop-offset.invariant in
    let n = c.loop-offset.offset in
    let xs = (lists_in c.args.lists).scalars in
    let a = c.args.value.start in
    let r = c.index-scalars-index.result in
    let read = c.index-scalars-index.is ∙ ap (λ ys. get_or ys (a + n) r) c.scalars-scalars.ensures in
    record {
      put = c.push_reserved.ensures.items ∙ ap (λ x. x ++ c.scalar_slot.result ∷ []) i.put ∙ append_assoc (take c.args.at c.args.pool.now.items) _ (c.scalar_slot.result ∷ [])
          ∙ ap (λ x. take c.args.at c.args.pool.now.items ++ x) (ap (λ x. scalar_slots a (slice_range xs a (a + n)) ++ x ∷ []) (c.scalar_slot.ensures ∙ ap (scalar_slot (a + n)) read) ∙ sym (scalars_more xs a n r (omega (arith, c.loop-offset-test.true, c.requires.there))));
      long = ap length c.push_reserved.ensures.items ∙ omega (arith, length-append c.loop-offset.pool.items (c.scalar_slot.result ∷ []), i.long);
      room = omega (arith, i.room, c.push_reserved.ensures.capacity);
    }

pub returns : goal.returns
returns c =
    let n : c.loop-offset.offset ≡ c.args.value.count = omega (arith, c.loop-offset-test.false, c.loop-offset.auto.offset-end) in
    record { kept = c.loop-offset.invariant.put ∙ ap (λ x. take c.args.at c.args.pool.now.items ++ scalar_slots c.args.value.start (slice_range (lists_in c.args.lists).scalars c.args.value.start (c.args.value.start + x))) n; count = refl; refused = tt }
