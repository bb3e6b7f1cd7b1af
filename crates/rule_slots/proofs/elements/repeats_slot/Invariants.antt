use Rattle.std.proofs.Common.{◌≡◌, drop}
use Rattle.ocl_base.specs.Lists.{repeats}
use Rattle.rule_slots.specs.Slots.{lists_in, held_slots}
use Rattle.rule_slots.specs.Compared.{same_slots}
use Rattle.rule_slots.proofs.elements.repeats_slot.Given as goal

-- one stands twice where one does among those that are left
abbrev pub invariant-loop-index : goal.invariant-loop-index
invariant-loop-index l =
    repeats (same_slots (lists_in l.lists) l.kind) (held_slots (lists_in l.lists) l.pool l.source) ≡ repeats (same_slots (lists_in l.lists) l.kind) (drop l.index (held_slots (lists_in l.lists) l.pool l.source))
