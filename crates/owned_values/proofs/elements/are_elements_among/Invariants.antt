use Rattle.std.proofs.Common.{◌≡◌, drop}
use Rattle.std.specs.List.{list_all}
use Rattle.ocl_base.specs.Lists.{is_among}
use Rattle.rule_values.specs.Value.{same_element}
use Rattle.owned_values.specs.Meant.{meant_elements}
use Rattle.owned_values.proofs.elements.are_elements_among.Given as goal

-- it holds of all where it holds of those that are left
abbrev pub invariant-loop-other : goal.invariant-loop-other
invariant-loop-other l =
    list_all (is_among same_element (meant_elements l.elements)) (meant_elements l.others) ≡ list_all (is_among same_element (meant_elements l.elements)) (meant_elements (drop l.other-index l.others))
