use Rattle.std.proofs.Common.{sym, ap, ◌∙◌}
use Rattle.std.specs.List.{list_all}
use Rattle.ocl_base.specs.Lists.{is_among}
use Rattle.rule_slots.specs.Slots.{lists_in, held_slots}
use Rattle.rule_slots.specs.Comparer.{same_by, slots_by, admits}
use Rattle.rule_slots.proofs.Moved.{admitted_moved}
use Rattle.rule_slots.proofs.searching.are_searched.Goals as goal

pub returns-in-Some : goal.returns-in-Some
returns-in-Some c =
    let v = c.args.comparer in
    let l = lists_in v.lists in
    let q = c.args.quantifier in
    let made = c.in-Some.copies in
    c.are_in.ensures ∙ ap (λ p. list_all (λ x. admits q (is_among (same_by v) (held_slots l p made.left) x)) (held_slots l p made.right)) c.deref.ensures.value
    ∙ sym (admitted_moved (same_by v) q (slots_by v c.args.source) (held_slots l made.room.items made.left) (slots_by v c.args.others) (held_slots l made.room.items made.right) c.in-Some.ensures.one_moved c.in-Some.ensures.other_moved)
