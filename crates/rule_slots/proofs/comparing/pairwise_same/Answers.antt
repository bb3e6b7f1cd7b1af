use Rattle.std.proofs.Common.{sym, ap, ◌∙◌, drop, ◌+◌, arith}
use Rattle.std.specs.Prelude.{◌&&◌}
use Rattle.rule_slots.specs.Compared.{pairwise_same}
use Rattle.rule_slots.specs.Comparer.{same_by, slots_by}
use Rattle.rule_slots.proofs.Loops.{held_count, pairs_next, pairs_end, pairs_differ}
use Rattle.rule_slots.proofs.comparing.pairwise_same.Goals as goal

pub returns-then-left-right : goal.returns-then-left-right
returns-then-left-right c =
    let v = c.args.comparer in
    sym (pairs_differ (same_by v) (slots_by v c.args.left) (slots_by v c.args.right) (λ e. c.if-left-right.true (sym (held_count v c.args.left c.requires.left) ∙ e ∙ held_count v c.args.right c.requires.right)))

pub returns-then-not-is_same : goal.returns-then-not-is_same
returns-then-not-is_same c =
    let v = c.args.comparer in
    let xs = slots_by v c.args.left in
    let ys = slots_by v c.args.right in
    let n = c.loop-index.index in
    sym (c.loop-index.invariant ∙ pairs_next (same_by v) xs ys n c.element-slot.result c.element-other.result c.element-slot.ensures c.element-other.ensures ∙ ap (λ z. z && pairwise_same (same_by v) (drop (n + 1) xs) (drop (n + 1) ys)) (sym c.is_same.ensures ∙ c.if-not-is_same.true))

pub loop-index-preserved : goal.loop-index-preserved
loop-index-preserved c =
    let v = c.args.comparer in
    let xs = slots_by v c.args.left in
    let ys = slots_by v c.args.right in
    let n = c.loop-index.index in
    c.loop-index.invariant ∙ pairs_next (same_by v) xs ys n c.element-slot.result c.element-other.result c.element-slot.ensures c.element-other.ensures ∙ ap (λ z. z && pairwise_same (same_by v) (drop (n + 1) xs) (drop (n + 1) ys)) (sym c.is_same.ensures ∙ c.if-not-is_same.false)

pub returns : goal.returns
returns c =
    let v = c.args.comparer in
    sym (c.loop-index.invariant ∙ pairs_end (same_by v) (slots_by v c.args.left) (slots_by v c.args.right) c.loop-index.index
    (omega (arith, held_count v c.args.left c.requires.left, c.loop-index-test.false)) (omega (arith, held_count v c.args.right c.requires.right, c.loop-index-test.false, c.if-left-right.false)))
