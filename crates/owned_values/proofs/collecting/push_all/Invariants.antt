use Rattle.std.proofs.Common.{◌≡◌, ◌++◌, take}
use Rattle.owned_values.specs.Meant.{meant_elements}
use Rattle.owned_values.proofs.collecting.push_all.Given as goal

-- the elements so far stand behind what was there
abbrev pub invariant-loop-element : goal.invariant-loop-element
invariant-loop-element l = meant_elements l.elements.items ≡ meant_elements l.initial.elements.items ++ meant_elements (take l.element-index l.more)
