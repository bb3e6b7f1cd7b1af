use Rattle.std.proofs.Common.{◌≡◌, map, take}
use Rattle.std.specs.Prelude.{min}
use Rattle.imkl_population.specs.Store.{range_of, standing}
use Rattle.imkl_population.proofs.column.Column.standing.Given as goal

abbrev pub invariant-loop-entry : goal.invariant-loop-entry
invariant-loop-entry l = l.count ≡ min (standing (map range_of (take l.entry-index l.entry-items))) 18446744073709551615
