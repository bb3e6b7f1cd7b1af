use Rattle.std.proofs.Common.{◌≡◌, ◌++◌, length}
use Rattle.std.specs.Vec.Iter.{into_iter_items, into_iter_len}
use Rattle.imkl_population.specs.Store.{ranges_from, scalars_of}
use Rattle.imkl_population.proofs.store.Store.into_ranges.Given as goal

-- what is moved, with what is left, is all
abbrev pub invariant-loop-column : goal.invariant-loop-column
invariant-loop-column l = record {
  count : into_iter_len l.column-iterator ≡ length (into_iter_items l.column-iterator);
  moved : l.list.items ++ scalars_of (into_iter_items l.column-iterator) ≡ l.fn.list.items ++ scalars_of l.fn.self;
  placed : l.ranges.items ++ ranges_from (length l.list.items) (into_iter_items l.column-iterator) ≡ ranges_from (length l.fn.list.items) l.fn.self;
}
