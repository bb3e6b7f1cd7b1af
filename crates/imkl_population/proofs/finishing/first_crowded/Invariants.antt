use Rattle.std.proofs.Common.{◌<◌, ℕ}
use Rattle.imkl_population.specs.Ends.{IsUncrowdedBelow}
use Rattle.imkl_population.proofs.finishing.first_crowded.Given as goal

abbrev pub invariant-loop-feature : goal.invariant-loop-feature
invariant-loop-feature l = (f : ℕ) → f < l.feature → IsUncrowdedBelow l.builder l.first f
