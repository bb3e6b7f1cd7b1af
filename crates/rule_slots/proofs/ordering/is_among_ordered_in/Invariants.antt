use Rattle.std.proofs.Common.{◌-◌}
use Rattle.rule_slots.specs.Slots.{lists_in}
use Rattle.rule_slots.specs.Ordered.{compare_slots}
use Rattle.rule_slots.specs.Comparer.{slots_by}
use Rattle.rule_slots.proofs.InOrder.{IsNarrowed}
use Rattle.rule_slots.proofs.ordering.is_among_ordered_in.Given as goal

-- the first that isn't before the element stands from low to high
abbrev pub invariant-loop-low : goal.invariant-loop-low
invariant-loop-low l = IsNarrowed (compare_slots (lists_in l.comparer.lists) l.comparer.kind) (slots_by l.comparer l.source) l.slot l.low l.high

-- what is left between them
abbrev pub decreases-loop-low : goal.decreases-loop-low
decreases-loop-low l = l.high - l.low
