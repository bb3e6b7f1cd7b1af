use Rattle.std.proofs.Common.{◌≡◌, take}
use Rattle.imkl_population.specs.Instances.{conforming}
use Rattle.imkl_population.proofs.instances.classes_below.Given as goal

abbrev pub invariant-loop-from : goal.invariant-loop-from
invariant-loop-from l = l.found.items ≡ conforming l.model (take l.from-index l.classes) l.class
