use Rattle.std.proofs.Common.{◌+◌, length, sym, ap, ◌∙◌, arith, length-append}
use Rattle.rule_slots.specs.Slots.{lists_in, held_slots}
use Rattle.rule_slots.proofs.Loops.{held_long}
use Rattle.rule_slots.proofs.Copies.{copy_put}
use Rattle.rule_slots.proofs.own_room.push_copy.Goals as goal

pub sort_part-requires-clause-within : goal.sort_part-requires-clause-within
sort_part-requires-clause-within c =
    let l = lists_in c.args.lists in
    let pool = c.args.pool.now in
    let old = c.args.room.now in
    let is = c.part_slot-copy.ensures in
    omega (arith, ap (λ z. z.start) is ∙ c.len-start.ensures ∙ old.ok.0, ap (λ z. z.count) is, ap length c.push_elements.ensures.items, length-append old.items (held_slots l pool c.args.source), held_long l pool c.args.source c.requires.within)

pub returns-clause-copy : goal.returns-clause-copy
returns-clause-copy c =
    let l = lists_in c.args.lists in
    let pool = c.args.pool.now in
    let old = c.args.room.now in
    let s = c.part_slot-copy.result in
    let is = c.part_slot-copy.ensures in
    let start = c.len-start.ensures ∙ old.ok.0 in
    let f = c.sort_part.ensures in
    copy_put l pool old.items c.push_elements.new.room.items c.sort_part.new.pool.items c.args.source s c.push_elements.ensures.items (ap (λ z. z.list) is) (ap (λ z. z.start) is ∙ start) (ap (λ z. z.count) is ∙ sym (held_long l pool c.args.source c.requires.within)) f.below f.long f.moved

pub returns-clause-long : goal.returns-clause-long
returns-clause-long c =
    let l = lists_in c.args.lists in
    let pool = c.args.pool.now in
    let old = c.args.room.now.items in
    c.sort_part.ensures.long ∙ ap length c.push_elements.ensures.items ∙ length-append old (held_slots l pool c.args.source) ∙ ap (λ n. length old + n) (held_long l pool c.args.source c.requires.within)
