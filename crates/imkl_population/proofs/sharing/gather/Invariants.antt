use Rattle.std.proofs.Common.{◌≡◌, take}
use Rattle.imkl_population.specs.Instances.{direct_of}
use Rattle.imkl_population.proofs.sharing.gather.Given as goal

abbrev pub invariant-loop-class : goal.invariant-loop-class
invariant-loop-class l = l.objects.items ≡ direct_of l.direct (take l.class-index l.classes)
