use Rattle.imkl_population.specs.Ends.{AreEndsBelow}
use Rattle.imkl_population.specs.Store.{maps_of}
use Rattle.std.proofs.Common.{◌≡◌, length}
use Rattle.imkl_population.proofs.ends.opposite_ends.Given as goal

abbrev pub invariant-loop-feature : goal.invariant-loop-feature
invariant-loop-feature l = record {
  count : length l.ends ≡ l.feature;
  ends : AreEndsBelow l.builder l.feature (maps_of l.ends);
}
