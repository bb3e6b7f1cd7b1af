use Rattle.std.proofs.Common.{◌∙◌, ◌+◌, ◌-◌, ◌/◌, sym, arith}
use Rattle.std.proofs.Math.Nat.{div-add-mod}
use Rattle.imkl_model.proofs.SortedTexts.{raised, lowered, narrowed_to}
use Rattle.imkl_model.proofs.sorted_texts.count_before.Goals as goal

pub loop-low-preserved-then-is_before : goal.loop-low-preserved-then-is_before
loop-low-preserved-then-is_before c =
    let low = c.loop-low.low in
    let high = c.loop-low.high in
    raised c.args.sorted.now c.args.name.now c.requires low high (low + (high - low) / 2) c.index-sorted-middle.result c.loop-low.invariant
    (omega (arith, c.loop-low-test.true, div-add-mod (high - low) 2)) c.index-sorted-middle.is (sym c.is_before.ensures ∙ c.if-is_before.true)

pub loop-low-preserved : goal.loop-low-preserved
loop-low-preserved c =
    let low = c.loop-low.low in
    let high = c.loop-low.high in
    lowered c.args.sorted.now c.args.name.now c.requires low high (low + (high - low) / 2) c.index-sorted-middle.result c.loop-low.invariant (omega arith)
    (omega (arith, c.loop-low-test.true, div-add-mod (high - low) 2)) c.index-sorted-middle.is (sym c.is_before.ensures ∙ c.if-is_before.false)

pub returns-clause-point : goal.returns-clause-point
returns-clause-point c = narrowed_to c.args.sorted.now c.args.name.now c.requires c.loop-low.low c.loop-low.high c.loop-low.invariant (omega (arith, c.loop-low-test.false))
