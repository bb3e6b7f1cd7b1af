use Rattle.std.proofs.Common.{rules, sym, ◌∙◌, arith}
use Rattle.std.specs.Prelude.{FitsSigned}
use Rattle.std.specs.Int.{w128}
use Rattle.std.proofs.lemmas.Int.{to_z-of_z}
use Rattle.rule_slots.specs.Slots.{lists_in, held_slots}
use Rattle.rule_slots.proofs.Loops.{held_long, sum_next, sum_missing, sum_end, sum_stops, sum_goes, sum_done}
use Rattle.rule_slots.proofs.sums.sum_of.Goals as goal

pub returns-then-not-is_plain : goal.returns-then-not-is_plain
returns-then-not-is_plain c =
    sum_stops _ _ _ c.loop-index.invariant.0 (sum_missing (held_slots (lists_in c.args.lists) c.args.pool.now c.args.source) c.loop-index.index c.element-slot.result c.element-slot.ensures (sym c.is_plain.ensures ∙ c.if-not-is_plain.true))

pub loop-index-preserved : goal.loop-index-preserved
loop-index-preserved c =
    let held = held_slots (lists_in c.args.lists) c.args.pool.now c.args.source in
    let fits : FitsSigned w128 c.plus-total.result = search rules in
    let back = to_z-of_z w128 c.plus-total.result fits in (
      sum_goes _ _ _ _ _ _ c.loop-index.invariant.0 (sum_next held c.loop-index.index c.element-slot.result c.element-slot.ensures (sym c.is_plain.ensures ∙ c.if-not-is_plain.false)) (back ∙ c.plus-total.ensures),
      search rules,
    )

pub returns : goal.returns
returns c =
    let held = held_slots (lists_in c.args.lists) c.args.pool.now c.args.source in
    sum_done _ _ _ c.loop-index.invariant.0 (sum_end held c.loop-index.index (omega (arith, held_long (lists_in c.args.lists) c.args.pool.now c.args.source c.requires, c.loop-index-test.false)))
