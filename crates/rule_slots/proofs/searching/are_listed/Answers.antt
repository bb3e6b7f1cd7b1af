use Rattle.std.proofs.Common.{◌∙◌}
use Rattle.std.specs.List.{list_all}
use Rattle.ocl_base.specs.Lists.{is_among}
use Rattle.rule_slots.specs.Slots.{lists_in}
use Rattle.rule_slots.specs.Comparer.{slots_by, admits}
use Rattle.rule_slots.proofs.SameWords.{as_numbers, as_objects}
use Rattle.rule_slots.proofs.searching.are_listed.Goals as goal

pub returns-in-Void : goal.returns-in-Void
returns-in-Void c =
    let v = c.args.comparer in
    c.are_listed_of_kind.ensures ∙ as_numbers (lists_in v.lists) v.kind (λ same. list_all (λ x. admits c.args.quantifier (is_among same (slots_by v c.args.source) x)) (slots_by v c.args.others)) c.in-Void.is

pub returns-in-Enumeration : goal.returns-in-Enumeration
returns-in-Enumeration c =
    let v = c.args.comparer in
    c.are_listed_of_kind-in-Enumeration.ensures ∙ as_objects (lists_in v.lists) v.kind (λ same. list_all (λ x. admits c.args.quantifier (is_among same (slots_by v c.args.source) x)) (slots_by v c.args.others)) c.in-Enumeration.is
