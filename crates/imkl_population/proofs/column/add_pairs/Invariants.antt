use Rattle.std.proofs.Common.{◌≡◌, ◌++◌, take}
use Rattle.imkl_population.specs.Population.{pairs_of}
use Rattle.imkl_population.proofs.column.add_pairs.Given as goal

abbrev pub invariant-loop-value : goal.invariant-loop-value
invariant-loop-value l = l.pairs.items ≡ l.initial.pairs.items ++ pairs_of l.holder (take l.value-index l.values)
