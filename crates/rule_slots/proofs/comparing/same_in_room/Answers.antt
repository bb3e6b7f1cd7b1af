use Rattle.std.proofs.Common.{sym, ap, ◌∙◌}
use Rattle.rule_slots.specs.Slots.{lists_in, held_slots}
use Rattle.rule_slots.specs.Compared.{same_unordered}
use Rattle.rule_slots.specs.Comparer.{same_by, slots_by, ignores_repeats}
use Rattle.rule_slots.proofs.Moved.{unordered_moved}
use Rattle.rule_slots.proofs.comparing.same_in_room.Goals as goal

pub returns-in-Some : goal.returns-in-Some
returns-in-Some c =
    let v = c.args.comparer in
    let l = lists_in v.lists in
    let unique = ignores_repeats c.args.repeats in
    let made = c.in-Some.copies in
    c.same_as_listed.ensures ∙ ap (λ p. same_unordered (same_by v) unique (held_slots l p made.left) (held_slots l p made.right)) c.deref.ensures.value
    ∙ sym (unordered_moved (same_by v) unique (slots_by v c.args.left) (held_slots l made.room.items made.left) (slots_by v c.args.right) (held_slots l made.room.items made.right) c.in-Some.ensures.one_moved c.in-Some.ensures.other_moved)
