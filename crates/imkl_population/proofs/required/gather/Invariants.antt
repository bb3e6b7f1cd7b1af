use Rattle.std.proofs.Common.{◌≡◌}
use Rattle.imkl_population.specs.Owners.{inherited}
use Rattle.imkl_population.proofs.required.gather.Given as goal

abbrev pub invariant-loop-owner : goal.invariant-loop-owner
invariant-loop-owner l = l.features.items ≡ inherited l.model l.class l.owned l.owner
