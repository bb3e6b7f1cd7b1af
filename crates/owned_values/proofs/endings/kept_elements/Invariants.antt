use Rattle.std.proofs.Common.{◌≡◌, ◌++◌, drop, map}
use Rattle.rule_values.specs.Endings.{kept_by}
use Rattle.owned_values.specs.Meant.{meant, meant_elements}
use Rattle.owned_values.specs.Walks.{is_wanted}
use Rattle.owned_values.proofs.endings.kept_elements.Given as goal

-- those that were kept, and those that are left
abbrev pub invariant-loop-index : goal.invariant-loop-index
invariant-loop-index l =
    meant_elements l.kept.items ++ kept_by (is_wanted l.wanted) (meant_elements (drop l.index l.elements)) (map meant (drop l.index l.bodies)) ≡ kept_by (is_wanted l.wanted) (meant_elements l.elements) (map meant l.bodies)
