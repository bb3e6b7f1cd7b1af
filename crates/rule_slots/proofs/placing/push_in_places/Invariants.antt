use Rattle.std.proofs.Common.{◌≡◌, ◌+◌, length, take, vec_capacity}
use Rattle.rule_slots.proofs.placing.push_in_places.Given as goal

-- as many as were passed stand behind the pool as it was
abbrev pub invariant-loop-index : goal.invariant-loop-index
invariant-loop-index l =
    (take (length l.fn.pool.items) l.pool.items ≡ l.fn.pool.items)
    × (length l.pool.items ≡ length l.fn.pool.items + l.index)
    × (vec_capacity l.pool ≡ vec_capacity l.fn.pool)
