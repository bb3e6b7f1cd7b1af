use Rattle.std.proofs.Common.{◌≡◌, drop}
use Rattle.ocl_base.specs.Lists.{is_among}
use Rattle.rule_values.specs.Value.{same_element}
use Rattle.owned_values.specs.Meant.{meant_element, meant_elements}
use Rattle.owned_values.proofs.elements.is_element_among.Given as goal

-- what is among all is among those that are left
abbrev pub invariant-loop-other : goal.invariant-loop-other
invariant-loop-other l =
    is_among same_element (meant_elements l.elements) (meant_element l.element) ≡ is_among same_element (meant_elements (drop l.other-index l.elements)) (meant_element l.element)
