use Rattle.std.proofs.Common.{◌≡◌, refl, sym, ◌∙◌, Some, length, arith}
use Rattle.std.specs.Prelude.{slice_get}
use Rattle.std.proofs.lemmas.Option.{slice_get_read}
use Rattle.rule_slots.specs.Slots.{lists_in, scalar_slots}
use Rattle.rule_code.specs.declared.kind.WrittenScalar.TheVariants as written
use Rattle.rule_slots.proofs.Parts.{scalar_at, scalar_slots_long}
use Rattle.rule_slots.specs.Compared.{same_slots}
use Rattle.rule_slots.proofs.Loops.{any_next, any_found, any_end}
use Rattle.rule_slots.proofs.elements.find_object.Goals as goal

pub returns-then-same_as_object : goal.returns-then-same_as_object
returns-then-same_as_object c =
    let n = c.loop-index.index in
    let xs = scalar_slots c.args.start c.args.scalars.now in
    let at : slice_get xs n ≡ Some _ = scalar_at c.args.start c.args.scalars.now n _ (slice_get_read c.args.scalars.now (length c.args.scalars.now) n _ refl c.loop-index-test.true c.index-scalars-index.is) in
    sym (c.loop-index.invariant ∙ any_found (same_slots (lists_in c.args.lists) written.AnyObject c.args.slot) xs n _ at (sym c.same_as_object.ensures ∙ c.if-same_as_object.true))

pub loop-index-preserved : goal.loop-index-preserved
loop-index-preserved c =
    let n = c.loop-index.index in
    let xs = scalar_slots c.args.start c.args.scalars.now in
    let at : slice_get xs n ≡ Some _ = scalar_at c.args.start c.args.scalars.now n _ (slice_get_read c.args.scalars.now (length c.args.scalars.now) n _ refl c.loop-index-test.true c.index-scalars-index.is) in
    c.loop-index.invariant ∙ any_next (same_slots (lists_in c.args.lists) written.AnyObject c.args.slot) xs n _ at (sym c.same_as_object.ensures ∙ c.if-same_as_object.false)

pub returns : goal.returns
returns c =
    let xs = scalar_slots c.args.start c.args.scalars.now in
    sym (c.loop-index.invariant ∙ any_end (same_slots (lists_in c.args.lists) written.AnyObject c.args.slot) xs c.loop-index.index (omega (arith, scalar_slots_long c.args.start c.args.scalars.now, c.loop-index-test.false)))
