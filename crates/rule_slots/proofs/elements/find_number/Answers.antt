use Rattle.std.proofs.Common.{◌≡◌, ◌+◌, refl, sym, ◌∙◌, Some, length, arith}
use Rattle.std.specs.Prelude.{slice_get}
use Rattle.std.proofs.lemmas.Option.{slice_get_read}
use Rattle.rule_slots.specs.Slots.{lists_in, scalar_slots}
use Rattle.rule_code.specs.declared.kind.WrittenScalar.TheVariants as written
use Rattle.rule_slots.proofs.Parts.{scalar_at, scalar_slots_long}
use Rattle.rule_slots.specs.Compared.{same_slots}
use Rattle.rule_slots.proofs.Loops.{any_next, any_found, any_end}
use Rattle.rule_slots.proofs.elements.find_number.Goals as goal

pub returns-then-same_as_number : goal.returns-then-same_as_number
returns-then-same_as_number c = λ start.
    let n = c.loop-index.index in
    let xs = scalar_slots start c.args.scalars.now in
    let at : slice_get xs n ≡ Some _ = scalar_at start c.args.scalars.now n _ (slice_get_read c.args.scalars.now (length c.args.scalars.now) n _ refl c.loop-index-test.true c.index-scalars-index.is) in
    sym (c.loop-index.invariant start ∙ any_found (same_slots (lists_in c.args.lists) written.Integer c.args.slot) xs n _ at (sym (c.same_as_number.ensures (start + n)) ∙ c.if-same_as_number.true))

pub loop-index-preserved : goal.loop-index-preserved
loop-index-preserved c = λ start.
    let n = c.loop-index.index in
    let xs = scalar_slots start c.args.scalars.now in
    let at : slice_get xs n ≡ Some _ = scalar_at start c.args.scalars.now n _ (slice_get_read c.args.scalars.now (length c.args.scalars.now) n _ refl c.loop-index-test.true c.index-scalars-index.is) in
    c.loop-index.invariant start ∙ any_next (same_slots (lists_in c.args.lists) written.Integer c.args.slot) xs n _ at (sym (c.same_as_number.ensures (start + n)) ∙ c.if-same_as_number.false)

pub returns : goal.returns
returns c = λ start.
    let xs = scalar_slots start c.args.scalars.now in
    sym (c.loop-index.invariant start ∙ any_end (same_slots (lists_in c.args.lists) written.Integer c.args.slot) xs c.loop-index.index (omega (arith, scalar_slots_long start c.args.scalars.now, c.loop-index-test.false)))
