use Rattle.std.proofs.Common.{◌≡◌, drop}
use Rattle.ocl_base.specs.Lists.{repeats}
use Rattle.rule_values.specs.Value.{same_element}
use Rattle.owned_values.specs.Meant.{meant_elements}
use Rattle.owned_values.proofs.collecting.repeats_element.Given as goal

-- one stands twice where one does among those that are left
abbrev pub invariant-loop-index : goal.invariant-loop-index
invariant-loop-index l =
    repeats same_element (meant_elements l.elements) ≡ repeats same_element (meant_elements (drop l.index l.elements))
