use Rattle.std.proofs.Common.{◌≡◌, drop, map}
use Rattle.rule_slots.specs.Slots.{lists_in, index_slot}
use Rattle.ocl_base.specs.Lists.{is_among}
use Rattle.rule_slots.specs.Compared.{same_slots}
use Rattle.rule_slots.proofs.elements.find_in_objects.Given as goal

-- what is among all is among those that are left
abbrev pub invariant-loop-index : goal.invariant-loop-index
invariant-loop-index l =
    is_among (same_slots (lists_in l.lists) l.kind) (map index_slot l.objects) l.slot ≡ is_among (same_slots (lists_in l.lists) l.kind) (drop l.index (map index_slot l.objects)) l.slot
