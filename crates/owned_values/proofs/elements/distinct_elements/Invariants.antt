use Rattle.std.proofs.Common.{◌≡◌, ◌++◌, drop}
use Rattle.rule_values.specs.Operations.{distinct_after, distinct}
use Rattle.owned_values.specs.Meant.{meant_elements}
use Rattle.owned_values.proofs.elements.distinct_elements.Given as goal

-- those that were taken, and those that are left
abbrev pub invariant-loop-element : goal.invariant-loop-element
invariant-loop-element l = meant_elements l.distinct.items ++ distinct_after (meant_elements l.distinct.items) (meant_elements (drop l.element-index l.elements)) ≡ distinct (meant_elements l.elements)
