use Rattle.std.proofs.Common.{◌≡◌, take}
use Rattle.owned_values.specs.Meant.{meant_elements}
use Rattle.owned_values.specs.Walks.{objects_meant}
use Rattle.owned_values.proofs.objects.object_elements.Given as goal

-- the elements so far are the objects so far
abbrev pub invariant-loop-object : goal.invariant-loop-object
invariant-loop-object l = meant_elements l.elements.items ≡ objects_meant (take l.object-index l.objects)
