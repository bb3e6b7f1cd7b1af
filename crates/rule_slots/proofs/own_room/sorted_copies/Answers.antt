use Rattle.rule_slots.specs.Slots.{lists_in}
use Rattle.rule_slots.proofs.Copies.{both_copied}
use Rattle.rule_slots.proofs.own_room.sorted_copies.Goals as goal

pub returns : goal.returns
returns c =
    let v = c.args.comparer in
    let l = lists_in v.lists in
    let old = c.in-Ok.room.items in
    let mid = c.push_copy-left.new.room.items in
    let new = c.push_copy-right.new.room.items in
    let one = c.push_copy-left.result in
    let other = c.push_copy-right.result in
    both_copied l v.pool.now c.args.left c.args.right old mid new one other c.push_copy-left.ensures.copy
    c.push_copy-right.ensures.copy
