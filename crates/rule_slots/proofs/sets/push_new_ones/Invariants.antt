use Rattle.std.proofs.Common.{◌≡◌, length, vec_capacity}
use Rattle.rule_slots.specs.Slots.{lists_in, held_slots}
use Rattle.rule_slots.specs.Compared.{same_slots}
use Rattle.rule_slots.specs.Sorted.{Choosing}
use Rattle.rule_slots.proofs.sets.push_new_ones.Given as goal

-- those that were chosen stand behind the pool as it was, and there is room for all that are left
abbrev pub invariant-loop-index : goal.invariant-loop-index
invariant-loop-index l =
    Choosing (same_slots (lists_in l.lists) l.kind) (held_slots (lists_in l.lists) l.fn.pool.items l.source) l.fn.pool.items l.pool.items l.index l.source.count (vec_capacity l.pool)
    × (vec_capacity l.pool ≡ vec_capacity l.fn.pool)
    × (l.opened ≡ length l.fn.pool.items)
