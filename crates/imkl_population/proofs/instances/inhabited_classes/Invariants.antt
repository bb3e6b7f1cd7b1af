use Rattle.std.proofs.Common.{◌≡◌}
use Rattle.ocl_base.specs.Numbers.{places}
use Rattle.imkl_population.specs.Instances.{has_objects}
use Rattle.imkl_population.proofs.instances.inhabited_classes.Given as goal

abbrev pub invariant-loop-class : goal.invariant-loop-class
invariant-loop-class l = l.classes.items ≡ places (has_objects l.direct) l.class
