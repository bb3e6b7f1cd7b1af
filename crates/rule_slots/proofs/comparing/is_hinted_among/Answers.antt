use Rattle.std.proofs.Common.{sym, ◌∙◌}
use Rattle.rule_slots.specs.Comparer.{same_by, slots_by}
use Rattle.rule_slots.proofs.InOrder.{any_at}
use Rattle.rule_slots.proofs.comparing.is_hinted_among.Goals as goal

pub returns-then-is_same : goal.returns-then-is_same
returns-then-is_same c =
    let v = c.args.comparer in
    sym (any_at (same_by v c.args.slot) (slots_by v c.args.source) c.args.hint c.element.result c.element.ensures (sym c.is_same.ensures ∙ c.if-is_same.true))
