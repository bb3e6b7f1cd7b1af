use Rattle.std.proofs.Common.{◌≡◌, take}
use Rattle.owned_values.specs.Meant.{meant_elements}
use Rattle.owned_values.proofs.value.copy_elements.Given as goal

-- the copies so far are the elements so far
abbrev pub invariant-loop-element : goal.invariant-loop-element
invariant-loop-element l = meant_elements l.copies.items ≡ meant_elements (take l.element-index l.elements)
