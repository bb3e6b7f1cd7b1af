use Rattle.std.proofs.Common.{◌≡◌, sym, ◌∙◌, Some, arith}
use Rattle.std.specs.Prelude.{slice_get}
use Rattle.std.proofs.lemmas.Option.{slice_get-get_or}
use Rattle.rule_slots.specs.Slots.{lists_in}
use Rattle.rule_slots.specs.Compared.{same_slots}
use Rattle.rule_slots.proofs.Loops.{any_next, any_found, any_end}
use Rattle.rule_slots.proofs.elements.find_in_slots.Goals as goal

pub returns-then-same_slots : goal.returns-then-same_slots
returns-then-same_slots c =
    let n = c.loop-index.index in
    let xs = c.args.slots.now in
    let at : slice_get xs n ≡ Some _ = slice_get-get_or c.args.slots.now n _ c.loop-index-test.true in
    sym (c.loop-index.invariant ∙ any_found (same_slots (lists_in c.args.lists) c.args.kind c.args.slot) xs n _ at (sym c.same_slots.ensures ∙ c.if-same_slots.true))

pub loop-index-preserved : goal.loop-index-preserved
loop-index-preserved c =
    let n = c.loop-index.index in
    let xs = c.args.slots.now in
    let at : slice_get xs n ≡ Some _ = slice_get-get_or c.args.slots.now n _ c.loop-index-test.true in
    c.loop-index.invariant ∙ any_next (same_slots (lists_in c.args.lists) c.args.kind c.args.slot) xs n _ at (sym c.same_slots.ensures ∙ c.if-same_slots.false)

pub returns : goal.returns
returns c =
    let xs = c.args.slots.now in
    sym (c.loop-index.invariant ∙ any_end (same_slots (lists_in c.args.lists) c.args.kind c.args.slot) xs c.loop-index.index (omega (arith, c.loop-index-test.false)))
