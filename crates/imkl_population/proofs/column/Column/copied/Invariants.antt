use Rattle.std.proofs.Common.{take}
use Rattle.imkl_population.proofs.Standing.{AreCopied}
use Rattle.imkl_population.proofs.column.Column.copied.Given as goal

abbrev pub invariant-loop-entry : goal.invariant-loop-entry
invariant-loop-entry l = AreCopied l.self-inside.scalars.items (take l.entry-index l.entry-items) l.scalars.items l.entries.items
