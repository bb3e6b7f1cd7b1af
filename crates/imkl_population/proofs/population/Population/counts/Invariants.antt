use Rattle.std.proofs.Common.{◌≡◌}
use Rattle.imkl_population.specs.Sizes.{list_below, count_of}
use Rattle.imkl_population.proofs.population.Population.counts.Given as goal

abbrev pub invariant-loop-class : goal.invariant-loop-class
invariant-loop-class l = l.counts.items ≡ list_below (count_of l.self.content) l.class
