use Rattle.std.proofs.Common.{sym, ap, ◌∙◌, arith}
use Rattle.std.specs.Prelude.{is_some}
use Rattle.rule_slots.specs.declared.comparer.Quantifier.TheVariants as quantifier
use Rattle.rule_slots.specs.Comparer.{slots_by, is_held}
use Rattle.rule_slots.proofs.Loops.{held_count, all_next, all_failed, all_end}
use Rattle.rule_slots.proofs.comparing.keep_hints_of_kind.Goals as goal

pub returns-in-None : goal.returns-in-None
returns-in-None c =
    let v = c.args.comparer in
    sym (c.loop-index.invariant ∙ all_failed (is_held v quantifier.All c.args.source) (slots_by v c.args.others) c.loop-index.index c.element-slot.result c.element-slot.ensures (sym c.find_in_list.ensures ∙ ap is_some c.in-None.is))

pub loop-index-preserved : goal.loop-index-preserved
loop-index-preserved c =
    let v = c.args.comparer in
    c.loop-index.invariant ∙ all_next (is_held v quantifier.All c.args.source) (slots_by v c.args.others) c.loop-index.index c.element-slot.result c.element-slot.ensures (sym c.find_in_list.ensures ∙ ap is_some c.in-Some.is)

pub returns : goal.returns
returns c =
    let v = c.args.comparer in
    sym (c.loop-index.invariant ∙ all_end (is_held v quantifier.All c.args.source) (slots_by v c.args.others) c.loop-index.index (omega (arith, held_count v c.args.others c.requires.others, c.loop-index-test.false)))
