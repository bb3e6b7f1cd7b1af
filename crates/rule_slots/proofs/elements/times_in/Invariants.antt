use Rattle.std.proofs.Common.{◌≡◌, ◌+◌, ◌≤◌, drop}
use Rattle.rule_slots.specs.Slots.{lists_in, held_slots}
use Rattle.rule_slots.specs.Compared.{same_slots, times_among}
use Rattle.rule_slots.proofs.elements.times_in.Given as goal

-- those that were counted, and those that are left
abbrev pub invariant-loop-index : goal.invariant-loop-index
invariant-loop-index l =
    (l.count + times_among (same_slots (lists_in l.lists) l.kind) (drop l.index (held_slots (lists_in l.lists) l.pool l.source)) l.slot ≡ times_among (same_slots (lists_in l.lists) l.kind) (held_slots (lists_in l.lists) l.pool l.source) l.slot) × (l.count ≤ l.index)
