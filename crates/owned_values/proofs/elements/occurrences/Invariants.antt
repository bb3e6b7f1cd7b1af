use Rattle.std.proofs.Common.{◌≡◌, ◌+◌, ◌≤◌, drop}
use Rattle.rule_values.specs.Equality.{occurrences}
use Rattle.owned_values.specs.Meant.{meant_element, meant_elements}
use Rattle.owned_values.proofs.elements.occurrences.Given as goal

-- those that were counted, and those that are left
abbrev pub invariant-loop-other : goal.invariant-loop-other
invariant-loop-other l =
    (l.count + occurrences (meant_elements (drop l.other-index l.elements)) (meant_element l.element) ≡ occurrences (meant_elements l.elements) (meant_element l.element)) × (l.count ≤ l.other-index)
