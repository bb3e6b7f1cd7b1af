use Rattle.std.proofs.Common.{◌≡◌, take}
use Rattle.imkl_population.proofs.Longest.{longest_span}
use Rattle.imkl_population.proofs.column_ranges.ColumnRanges.longest.Given as goal

abbrev pub invariant-loop-entry : goal.invariant-loop-entry
invariant-loop-entry l = l.longest ≡ longest_span (take l.entry-index l.entry-items)
