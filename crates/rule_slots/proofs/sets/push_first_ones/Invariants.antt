use Rattle.std.proofs.Common.{vec_capacity}
use Rattle.rule_slots.specs.Slots.{lists_in, held_slots}
use Rattle.rule_slots.specs.Compared.{same_slots, Taking}
use Rattle.rule_slots.proofs.sets.push_first_ones.Given as goal

-- those that were taken stand behind the pool as it was, and there is room for all that are left
abbrev pub invariant-loop-index : goal.invariant-loop-index
invariant-loop-index l = Taking (same_slots (lists_in l.lists) l.kind) (held_slots (lists_in l.lists) l.fn.pool.items l.source) l.fn.pool.items l.pool.items l.opened l.index l.source.count (vec_capacity l.pool)
