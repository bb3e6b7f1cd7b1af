use Rattle.std.proofs.Common.{◌≡◌, drop, ◌+ℤ◌}
use Rattle.std.specs.Option.{option_map}
use Rattle.rule_values.specs.Operations.{sum_of}
use Rattle.owned_values.specs.Meant.{meant_elements}
use Rattle.owned_values.specs.Walks.{IsTotal}
use Rattle.owned_values.proofs.sums.sum_of.Given as goal

-- the sum so far, with that of what is left
abbrev pub invariant-loop-element : goal.invariant-loop-element
invariant-loop-element l =
    (option_map (λ m. l.total +ℤ m) (sum_of (meant_elements (drop l.element-index l.elements))) ≡ sum_of (meant_elements l.elements)) × IsTotal l.element-index l.total
