use Rattle.std.proofs.Common.{◌≡◌, take}
use Rattle.imkl_population.specs.Sizes.{list_below, longest_of}
use Rattle.imkl_population.proofs.sizes.Sizes.lengths_are_of.Given as goal

abbrev pub invariant-loop-feature : goal.invariant-loop-feature
invariant-loop-feature l = list_below (longest_of l.population.content) l.feature ≡ take l.feature l.self.longest
