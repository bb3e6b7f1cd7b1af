use Rattle.std.proofs.Common.{◌≡◌, ◌++◌, drop, map}
use Rattle.std.specs.List.{filter_map}
use Rattle.rule_values.specs.Value.{as_element}
use Rattle.owned_values.specs.Meant.{meant, meant_elements}
use Rattle.owned_values.proofs.collecting.collected_elements.Given as goal

-- what was collected, and what is left
abbrev pub invariant-loop-body : goal.invariant-loop-body
invariant-loop-body l =
    meant_elements l.elements.items ++ filter_map as_element (map meant (drop l.body-index l.bodies)) ≡ filter_map as_element (map meant l.bodies)
