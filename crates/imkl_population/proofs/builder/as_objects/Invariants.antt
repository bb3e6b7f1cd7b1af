use Rattle.std.proofs.Common.{◌≡◌, take}
use Rattle.imkl_population.specs.Building.{as_objects}
use Rattle.imkl_population.proofs.builder.as_objects.Given as goal

abbrev pub invariant-loop-object : goal.invariant-loop-object
invariant-loop-object l = l.values.items ≡ as_objects (take l.object-index l.objects)
