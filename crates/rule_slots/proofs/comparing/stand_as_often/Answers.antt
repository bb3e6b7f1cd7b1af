use Rattle.std.proofs.Common.{sym, ◌∙◌, arith}
use Rattle.std.specs.Prelude.{◌==◌}
use Rattle.std.proofs.lemmas.Bool.{eq-eqb, ne_eqb}
use Rattle.rule_slots.specs.Compared.{times_among}
use Rattle.rule_slots.specs.Comparer.{same_by, slots_by}
use Rattle.rule_slots.proofs.Loops.{held_count, all_next, all_failed, all_end}
use Rattle.rule_slots.proofs.comparing.stand_as_often.Goals as goal

pub returns-then-here-there : goal.returns-then-here-there
returns-then-here-there c =
    let v = c.args.comparer in
    let same = same_by v in
    let xs = slots_by v c.args.left in
    let ys = slots_by v c.args.right in
    let s = c.element-slot.result in
    sym (c.loop-index.invariant ∙ all_failed (λ x. times_among same xs x == times_among same ys x) xs c.loop-index.index s c.element-slot.ensures
    (ne_eqb (times_among same xs s) (times_among same ys s) (λ e. c.if-here-there.true (c.times_among-here.ensures ∙ e ∙ sym c.times_among-there.ensures))))

pub loop-index-preserved : goal.loop-index-preserved
loop-index-preserved c =
    let v = c.args.comparer in
    let same = same_by v in
    let xs = slots_by v c.args.left in
    let ys = slots_by v c.args.right in
    let s = c.element-slot.result in
    c.loop-index.invariant ∙ all_next (λ x. times_among same xs x == times_among same ys x) xs c.loop-index.index s c.element-slot.ensures
    (eq-eqb (times_among same xs s) (times_among same ys s) (sym c.times_among-here.ensures ∙ c.if-here-there.false ∙ c.times_among-there.ensures))

pub returns : goal.returns
returns c =
    let v = c.args.comparer in
    let same = same_by v in
    let xs = slots_by v c.args.left in
    let ys = slots_by v c.args.right in
    sym (c.loop-index.invariant ∙ all_end (λ x. times_among same xs x == times_among same ys x) xs c.loop-index.index (omega (arith, held_count v c.args.left c.requires.left, c.loop-index-test.false)))
