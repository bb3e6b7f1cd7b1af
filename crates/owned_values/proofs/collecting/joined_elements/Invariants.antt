use Rattle.std.proofs.Common.{◌≡◌, ◌++◌, drop, map}
use Rattle.rule_values.specs.Endings.{joined}
use Rattle.owned_values.specs.Meant.{meant, meant_elements}
use Rattle.owned_values.proofs.collecting.joined_elements.Given as goal

-- what was joined, and what is left
abbrev pub invariant-loop-body : goal.invariant-loop-body
invariant-loop-body l = meant_elements l.elements.items ++ joined (map meant (drop l.body-index l.bodies)) ≡ joined (map meant l.bodies)
