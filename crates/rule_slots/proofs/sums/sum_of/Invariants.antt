use Rattle.std.proofs.Common.{◌≡◌, drop, ◌+ℤ◌}
use Rattle.std.specs.Option.{option_map}
use Rattle.rule_slots.specs.Slots.{lists_in, held_slots}
use Rattle.rule_slots.specs.Summed.{sum_of_slots, IsSumOf}
use Rattle.rule_slots.proofs.sums.sum_of.Given as goal

-- the sum so far, with that of what is left
abbrev pub invariant-loop-index : goal.invariant-loop-index
invariant-loop-index l =
    (option_map (λ m. l.total +ℤ m) (sum_of_slots (drop l.index (held_slots (lists_in l.lists) l.pool l.source))) ≡ sum_of_slots (held_slots (lists_in l.lists) l.pool l.source)) × IsSumOf l.index l.total
