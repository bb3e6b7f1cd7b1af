use Rattle.std.proofs.Common.{◌∙◌}
use Rattle.std.specs.List.{list_all}
use Rattle.ocl_base.specs.Lists.{is_among}
use Rattle.rule_slots.specs.Slots.{lists_in}
use Rattle.rule_slots.specs.Comparer.{slots_by}
use Rattle.rule_slots.proofs.SameWords.{as_numbers}
use Rattle.rule_slots.proofs.comparing.keep_hints.Goals as goal

pub returns-in-Void : goal.returns-in-Void
returns-in-Void c =
    let v = c.args.comparer in
    c.keep_hints_of_kind.ensures ∙ as_numbers (lists_in v.lists) v.kind (λ same. list_all (is_among same (slots_by v c.args.source)) (slots_by v c.args.others)) c.in-Void.is
