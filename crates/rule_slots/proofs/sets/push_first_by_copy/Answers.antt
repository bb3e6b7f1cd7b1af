use Rattle.std.proofs.Common.{◌≡◌, ◌+◌, ◌-◌, ◌++◌, [], false, length, take, refl, sym, ap, ◌∙◌, arith, length-append}
use Rattle.std.proofs.lemmas.List.{take-append-le}
use Rattle.ocl_base.specs.Lists.{repeats}
use Rattle.rule_slots.specs.Slots.{lists_in, held_slots, part_slot}
use Rattle.rule_slots.specs.Compared.{same_slots, first_ones}
use Rattle.rule_slots.proofs.InOrder.{not_true}
use Rattle.rule_slots.proofs.Pool.{held_same}
use Rattle.rule_slots.proofs.Loops.{all_taken, taken_are}
use Rattle.rule_slots.proofs.sets.push_first_by_copy.Goals as goal

pub returns-then-differ : goal.returns-then-differ
returns-then-differ c =
    let l = lists_in c.args.lists in
    let same = same_slots l c.args.kind in
    let old = c.args.pool.now.items in
    let copied = c.push_placed.new.pool.items in
    let chosen = c.push_new_ones.new.pool.items in
    let choice = c.push_new_ones.ensures.chosen in
    let taken = choice.taken in
    let below = c.push_placed.ensures.below in
    let start : c.len-start.result ≡ length old = c.len-start.ensures ∙ c.args.pool.now.ok.0 in
    let opened : c.len-opened.result ≡ length copied = c.len-opened.ensures ∙ c.push_placed.new.pool.ok.0 in
    let whole : length chosen ≡ length copied + length taken = ap length choice.put ∙ length-append copied taken in
    let count : c.len.result - c.len-opened.result ≡ length taken = omega (arith, c.len.ensures, c.push_new_ones.new.pool.ok.0, opened, whole) in
    let part = part_slot 2 c.len-opened.result (c.len.result - c.len-opened.result) in
    let those : held_slots l chosen part ≡ taken = ap (λ z. held_slots l z part) choice.put ∙ taken_are l copied taken part refl opened count in
    let told = not_true (repeats same (held_slots l chosen c.part_slot.result)) (sym c.differ_by_copy-differ.ensures.told ∙ c.if-differ.true) in
    let none : repeats same taken ≡ false = ap (repeats same) (sym those) ∙ ap (λ s. repeats same (held_slots l chosen s)) (sym c.part_slot.ensures) ∙ told in
    let held = held_same l old copied (length old) (length copied) (omega (arith, c.push_placed.ensures.long)) (all_taken old (length old) (omega arith) ∙ sym below) c.args.source c.requires.within in
    let pool = c.differ_by_copy-differ.ensures.pool in
    let front : take c.len-start.result chosen ≡ old =
    ap (λ n. take n chosen) start ∙ ap (take (length old)) choice.put ∙ take-append-le (length old) copied taken (omega (arith, c.push_placed.ensures.long)) ∙ below in
    c.move_down.ensures.items ∙ ap (λ z. take c.len-start.result z ++ held_slots l z part) pool ∙ ap (λ z. z ++ held_slots l chosen part) front ∙ ap (λ z. old ++ z) (those ∙ choice.first none ∙ ap (first_ones same []) (sym held))
