use Rattle.std.proofs.Common.{◌≡◌, refl, sym, ap, ◌∙◌, Some, length, arith, map}
use Rattle.std.specs.Prelude.{slice_get}
use Rattle.std.proofs.lemmas.Option.{slice_get_read}
use Rattle.rule_slots.specs.Slots.{lists_in, index_slot}
use Rattle.rule_slots.proofs.Parts.{map_at}
use Rattle.std.proofs.lemmas.List.{length-map}
use Rattle.rule_slots.specs.Compared.{same_slots}
use Rattle.rule_slots.proofs.Loops.{any_next, any_found, any_end}
use Rattle.rule_slots.proofs.elements.find_in_objects.Goals as goal

pub returns-then-same_slots : goal.returns-then-same_slots
returns-then-same_slots c =
    let n = c.loop-index.index in
    let xs = map index_slot c.args.objects.now in
    let at : slice_get xs n ≡ Some _ = map_at index_slot c.args.objects.now n _ (slice_get_read c.args.objects.now (length c.args.objects.now) n _ refl c.loop-index-test.true c.index-objects-index.is) ∙ ap (λ o. Some (index_slot o)) (sym c.index.ensures) ∙ ap Some (sym c.index_slot.ensures) in
    sym (c.loop-index.invariant ∙ any_found (same_slots (lists_in c.args.lists) c.args.kind c.args.slot) xs n _ at (sym c.same_slots.ensures ∙ c.if-same_slots.true))

pub loop-index-preserved : goal.loop-index-preserved
loop-index-preserved c =
    let n = c.loop-index.index in
    let xs = map index_slot c.args.objects.now in
    let at : slice_get xs n ≡ Some _ = map_at index_slot c.args.objects.now n _ (slice_get_read c.args.objects.now (length c.args.objects.now) n _ refl c.loop-index-test.true c.index-objects-index.is) ∙ ap (λ o. Some (index_slot o)) (sym c.index.ensures) ∙ ap Some (sym c.index_slot.ensures) in
    c.loop-index.invariant ∙ any_next (same_slots (lists_in c.args.lists) c.args.kind c.args.slot) xs n _ at (sym c.same_slots.ensures ∙ c.if-same_slots.false)

pub returns : goal.returns
returns c =
    let xs = map index_slot c.args.objects.now in
    sym (c.loop-index.invariant ∙ any_end (same_slots (lists_in c.args.lists) c.args.kind c.args.slot) xs c.loop-index.index (omega (arith, length-map c.args.objects.now index_slot, c.loop-index-test.false)))
