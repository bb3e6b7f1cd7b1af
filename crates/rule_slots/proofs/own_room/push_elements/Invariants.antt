use Rattle.std.proofs.Common.{◌≡◌, ◌≤◌, ◌+◌, ◌-◌, ◌++◌, length, take, vec_capacity}
use Rattle.rule_slots.specs.Slots.{lists_in, held_slots}
use Rattle.rule_slots.proofs.own_room.push_elements.Given as goal

-- those before the index stand behind what was there, and there is room for all that are left
abbrev pub invariant-loop-index : goal.invariant-loop-index
invariant-loop-index l =
    (l.room.items ≡ l.fn.room.items ++ take l.index (held_slots (lists_in l.lists) l.pool l.source))
    × (length l.room.items + (l.source.count - l.index) ≤ vec_capacity l.room)
    × (vec_capacity l.room ≡ vec_capacity l.fn.room)
