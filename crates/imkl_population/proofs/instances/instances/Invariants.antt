use Rattle.std.proofs.Common.{◌≡◌, length}
use Rattle.imkl_population.specs.Instances.{AreShared}
use Rattle.imkl_population.specs.Layout.{AreInstances}
use Rattle.imkl_population.proofs.instances.instances.Given as goal

abbrev pub invariant-loop-class : goal.invariant-loop-class
invariant-loop-class l = record {
  so_long : length l.ranges.items ≡ l.class;
  parts : AreInstances l.builder l.shared.list.items l.ranges.items l.class;
  shared : AreShared l.builder l.shared;
}
