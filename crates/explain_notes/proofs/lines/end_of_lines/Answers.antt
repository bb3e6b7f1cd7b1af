use Rattle.std.proofs.Common.{◌∙◌, ◌-◌, true, false, ap, arith, ◌==◌}
use Rattle.std.proofs.Math.Seq.{take-length}
use Rattle.std.proofs.lemmas.Bool.{ne_eqb}
use Rattle.explain_notes.proofs.Turns.{over, at_end}
use Rattle.explain_notes.proofs.lines.end_of_lines.Goals.{then-text-index-eq10, else-text-index-eq10}
use Rattle.explain_notes.proofs.lines.end_of_lines.Goals as goal

pub loop-index-preserved : goal.loop-index-preserved
loop-index-preserved c = elim c.if-text-index-eq10.branch [
  | then-text-index-eq10 w ↦ over c.args.text.now c.loop-index.index c.loop-index.left c.if-text-index-eq10.left (c.loop-index.left - 1) true c.loop-index-test.true (ap (λ b. b == 10) w.if-text-index-eq10.true) (omega (arith, c.if-left-eq0.false)) w.left-is ∙ c.loop-index.invariant
  | else-text-index-eq10 w ↦ over c.args.text.now c.loop-index.index c.loop-index.left c.if-text-index-eq10.left (c.loop-index.left - 1) false c.loop-index-test.true (ne_eqb _ _ w.if-text-index-eq10.false) (omega (arith, c.if-left-eq0.false)) (omega (arith, w.left-is, c.if-left-eq0.false)) ∙ c.loop-index.invariant
]

pub returns-clause-lines : goal.returns-clause-lines
returns-clause-lines c = take-length c.args.text.now ∙ at_end c.args.text.now c.loop-index.index c.loop-index.left c.loop-index-test.false ∙ c.loop-index.invariant
