use Rattle.std.proofs.Common.{◌≡◌}
use Rattle.imkl_population.specs.Sizes.{list_below, longest_of}
use Rattle.imkl_population.proofs.population.Population.longest.Given as goal

abbrev pub invariant-loop-feature : goal.invariant-loop-feature
invariant-loop-feature l = l.longest.items ≡ list_below (longest_of l.self.content) l.feature
