use Rattle.std.proofs.Common.{◌≡◌, ◌+◌, ◌-◌, ◌++◌, length, take, drop, sym, ap, ◌∙◌, subst, arith, length-append}
use Rattle.std.specs.List.Sorted.{IsPermutation}
use Rattle.std.proofs.lemmas.List.{drop_at}
use Rattle.std.proofs.lemmas.List.Sorted.{length_permutation}
use Rattle.rule_slots.specs.Slots.{lists_in, held_slots}
use Rattle.rule_slots.proofs.Loops.{held_long, all_taken}
use Rattle.rule_slots.proofs.Copies.{behind_sorted, copy_made}
use Rattle.rule_slots.proofs.sorting.push_sorted.Goals as goal

-- what was put at the pool's end is what is sorted
moved : (c : goal.After-part_slot) → IsPermutation (held_slots (lists_in c.args.lists) c.args.pool.now.items c.args.source) c.sort_slots.new.slots
moved c =
    let old = c.args.pool.now.items in
    let held = held_slots (lists_in c.args.lists) old c.args.source in
    let d = c.deref_mut.result.now in
    let at = c.len-start.result in
    let whole : d ≡ old ++ held = c.deref_mut.ensures.value ∙ c.push_all.ensures.items in
    let start : at ≡ length old = c.len-start.ensures ∙ c.args.pool.now.ok.0 in
    let rest : drop at d ≡ held = ap (drop at) whole ∙ drop_at old held at (sym start) in
    let count : length d - at ≡ length held = omega (arith, ap length whole, length-append old held, start) in
    let part : take (length d - at) (drop at d) ≡ held = ap (take (length d - at)) rest ∙ all_taken held (length d - at) (omega (arith, count)) in
    subst (λ (z : _). IsPermutation z c.sort_slots.new.slots) part c.sort_slots.ensures

pub returns-clause-copy : goal.returns-clause-copy
returns-clause-copy c =
    let l = lists_in c.args.lists in
    let old = c.args.pool.now.items in
    let held = held_slots l old c.args.source in
    let ys = c.sort_slots.new.slots in
    let s = c.part_slot.result in
    let long = length_permutation held ys (moved c) in
    let whole = c.deref_mut.ensures.value ∙ c.push_all.ensures.items in
    let start = c.len-start.ensures ∙ c.args.pool.now.ok.0 in
    let kept = behind_sorted old held ys c.deref_mut.result.now _ c.len-start.result c.push_all.new.pool.len whole start (c.push_all.new.pool.ok.0 ∙ ap length c.push_all.ensures.items) long in
    copy_made l old ys _ c.args.source s kept (moved c) (ap (λ z. z.list) c.part_slot.ensures) (ap (λ z. z.start) c.part_slot.ensures ∙ start) (ap (λ z. z.count) c.part_slot.ensures ∙ sym (held_long l old c.args.source c.requires.within) ∙ sym long)

pub returns-clause-long : goal.returns-clause-long
returns-clause-long c =
    let l = lists_in c.args.lists in
    let old = c.args.pool.now.items in
    let held = held_slots l old c.args.source in
    let ys = c.sort_slots.new.slots in
    let long = length_permutation held ys (moved c) in
    let whole = c.deref_mut.ensures.value ∙ c.push_all.ensures.items in
    let start = c.len-start.ensures ∙ c.args.pool.now.ok.0 in
    ap length (behind_sorted old held ys c.deref_mut.result.now _ c.len-start.result c.push_all.new.pool.len whole start (c.push_all.new.pool.ok.0 ∙ ap length c.push_all.ensures.items) long)
    ∙ length-append old ys ∙ ap (λ n. length old + n) (long ∙ held_long l old c.args.source c.requires.within)
