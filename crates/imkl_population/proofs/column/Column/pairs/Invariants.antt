use Rattle.std.proofs.Common.{◌≡◌, map, take}
use Rattle.imkl_population.specs.Store.{pairs_in, entry_of}
use Rattle.imkl_population.proofs.column.Column.pairs.Given as goal

abbrev pub invariant-loop-entry : goal.invariant-loop-entry
invariant-loop-entry l = l.pairs.items ≡ pairs_in (map (entry_of l.self-inside.scalars.items) (take l.entry-index l.entry-items))
