use Rattle.std.proofs.Common.{◌≡◌, ◌++◌, drop, map}
use Rattle.rule_values.specs.Endings.{kept_by}
use Rattle.owned_values.specs.Meant.{meant, meant_elements}
use Rattle.explain_why.specs.Explanation.{decides, deciding_of}
use Rattle.explain_why.proofs.deciding.deciding_elements.Given as goal

-- those that were kept, and those that are left
abbrev pub invariant-loop-index : goal.invariant-loop-index
invariant-loop-index l =
    meant_elements l.kept.items ++ kept_by (decides (deciding_of l.deciding)) (meant_elements (drop l.index l.elements)) (map meant (drop l.index l.bodies))
    ≡ kept_by (decides (deciding_of l.deciding)) (meant_elements l.elements) (map meant l.bodies)
