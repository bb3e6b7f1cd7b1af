use Rattle.std.proofs.Common.{◌≡◌, length, take}
use Rattle.std.specs.Prelude.{min}
use Rattle.imkl_population.specs.Store.{scalars_of}
use Rattle.imkl_population.proofs.store.Store.value_count.Given as goal

abbrev pub invariant-loop-column : goal.invariant-loop-column
invariant-loop-column l = l.count ≡ min (length (scalars_of (take l.column-index l.column-items))) 18446744073709551615
