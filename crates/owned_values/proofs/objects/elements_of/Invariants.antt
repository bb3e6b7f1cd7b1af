use Rattle.std.proofs.Common.{◌≡◌, map, take, Some}
use Rattle.owned_values.specs.Meant.{meant_elements}
use Rattle.owned_values.proofs.objects.elements_of.Given as goal

-- the elements so far are the values so far
abbrev pub invariant-loop-scalar : goal.invariant-loop-scalar
invariant-loop-scalar l = meant_elements l.elements.items ≡ map Some (take l.scalar-index l.scalars)
