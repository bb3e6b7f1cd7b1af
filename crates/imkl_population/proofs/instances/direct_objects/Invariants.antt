use Rattle.imkl_population.specs.Instances.{AreDirect}
use Rattle.imkl_population.proofs.instances.direct_objects.Given as goal

abbrev pub invariant-loop-object : goal.invariant-loop-object
invariant-loop-object l = AreDirect l.builder l.object l.lists.items
