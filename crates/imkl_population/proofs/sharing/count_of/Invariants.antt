use Rattle.std.proofs.Common.{◌≡◌, length, take}
use Rattle.std.specs.Prelude.{min}
use Rattle.imkl_population.specs.Instances.{direct_of}
use Rattle.imkl_population.proofs.sharing.count_of.Given as goal

abbrev pub invariant-loop-class : goal.invariant-loop-class
invariant-loop-class l = l.count ≡ min (length (direct_of l.direct (take l.class-index l.classes))) 18446744073709551615
