use Rattle.std.proofs.Common.{◌≡◌, length, sym, ap, ◌∙◌, arith}
use Rattle.std.specs.Prelude.{not}
use Rattle.rule_slots.specs.Slots.{lists_in}
use Rattle.rule_slots.specs.Comparer.{slots_by, ignores_repeats}
use Rattle.rule_slots.proofs.Loops.{held_count}
use Rattle.rule_slots.proofs.Empties.{none_or_some, some_or_none}
use Rattle.rule_slots.proofs.comparing.is_one_empty.Goals as goal

pub returns-then-right-gt0 : goal.returns-then-right-gt0
returns-then-right-gt0 c = λ r t.
    let v = c.args.comparer in
    let none : length (slots_by v c.args.left) ≡ 0 = omega (arith, held_count v c.args.left c.requires.left, c.if-left-eq0.true) in
    none_or_some (lists_in v.lists) v.kind (ignores_repeats r) (slots_by v c.args.left) (slots_by v c.args.right) c.element.result none c.element.ensures (ap not (sym c.is_invalid.ensures) ∙ t)

pub returns-then-left-gt0 : goal.returns-then-left-gt0
returns-then-left-gt0 c = λ r t.
    let v = c.args.comparer in
    let none : length (slots_by v c.args.right) ≡ 0 = omega (arith, held_count v c.args.right c.requires.right, c.if-right-eq0.true) in
    some_or_none (lists_in v.lists) v.kind (ignores_repeats r) (slots_by v c.args.left) (slots_by v c.args.right) c.element-then-left-gt0.result c.element-then-left-gt0.ensures none (ap not (sym c.is_invalid-then-left-gt0.ensures) ∙ t)
