use Rattle.std.proofs.Common.{◌≡◌, drop}
use Rattle.std.specs.List.{list_any}
use Rattle.owned_values.specs.Meant.{meant_elements}
use Rattle.explain_why.specs.Reasons.{is_null_element}
use Rattle.explain_why.proofs.reasons.is_any_null.Given as goal

-- one of all is null where one that is left is
abbrev pub invariant-loop-element : goal.invariant-loop-element
invariant-loop-element l = list_any is_null_element (meant_elements l.elements) ≡ list_any is_null_element (meant_elements (drop l.element-index l.elements))
