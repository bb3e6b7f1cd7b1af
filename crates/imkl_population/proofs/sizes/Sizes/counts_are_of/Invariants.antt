use Rattle.std.proofs.Common.{◌≡◌, take}
use Rattle.imkl_population.specs.Sizes.{list_below, count_of}
use Rattle.imkl_population.proofs.sizes.Sizes.counts_are_of.Given as goal

abbrev pub invariant-loop-class : goal.invariant-loop-class
invariant-loop-class l = list_below (count_of l.population.content) l.class ≡ take l.class l.self.counts
