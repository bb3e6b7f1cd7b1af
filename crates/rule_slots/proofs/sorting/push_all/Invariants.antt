use Rattle.std.proofs.Common.{◌≡◌, ◌≤◌, ◌+◌, ◌-◌, ◌++◌, length, take, vec_capacity}
use Rattle.rule_slots.specs.Slots.{lists_in, held_slots}
use Rattle.rule_slots.proofs.sorting.push_all.Given as goal

-- those before the index stand behind the pool as it was, and there is room for all that are left
abbrev pub invariant-loop-index : goal.invariant-loop-index
invariant-loop-index l =
    (l.pool.items ≡ l.fn.pool.items ++ take l.index (held_slots (lists_in l.lists) l.fn.pool.items l.source))
    × (length l.pool.items + (l.source.count - l.index) ≤ vec_capacity l.pool)
    × (vec_capacity l.pool ≡ vec_capacity l.fn.pool)
