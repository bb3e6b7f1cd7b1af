use Rattle.std.proofs.Common.{◌≡◌}
use Rattle.imkl_population.specs.Population.{class_of}
use Rattle.imkl_population.specs.Sizes.{list_below}
use Rattle.imkl_population.proofs.instances.classes_of.Given as goal

abbrev pub invariant-loop-object : goal.invariant-loop-object
invariant-loop-object l = l.classes.items ≡ list_below (class_of l.builder) l.object
