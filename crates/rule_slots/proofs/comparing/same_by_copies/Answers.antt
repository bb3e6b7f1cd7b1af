use Rattle.std.proofs.Common.{sym, ap, ◌∙◌}
use Rattle.rule_slots.specs.Slots.{lists_in, held_slots}
use Rattle.rule_slots.specs.Compared.{same_slots, same_unordered}
use Rattle.rule_slots.specs.Comparer.{ignores_repeats}
use Rattle.rule_slots.proofs.Copies.{first_moved, second_moved}
use Rattle.rule_slots.proofs.Moved.{unordered_moved}
use Rattle.rule_slots.proofs.comparing.same_by_copies.Goals as goal

pub returns-clause-told : goal.returns-clause-told
returns-clause-told c =
    let l = lists_in c.args.lists in
    let same = same_slots l c.args.kind in
    let old = c.args.pool.now.items in
    let mid = c.push_sorted-one.new.pool.items in
    let new = c.push_sorted-other.new.pool.items in
    let one = c.push_sorted-one.result in
    let other = c.push_sorted-other.result in
    let a = c.push_sorted-one.ensures.copy in
    let b = c.push_sorted-other.ensures.copy in
    let left = first_moved l old c.args.left mid one a c.args.right new other b in
    let right = second_moved l old c.args.left mid one a c.args.right new other b c.requires.right in
    c.same_as_listed-same.ensures ∙ ap (λ p. same_unordered same (ignores_repeats c.args.repeats) (held_slots l p one) (held_slots l p other)) c.deref.ensures.value
    ∙ sym (unordered_moved same (ignores_repeats c.args.repeats) (held_slots l old c.args.left) (held_slots l new one) (held_slots l old c.args.right) (held_slots l new other) left right)
