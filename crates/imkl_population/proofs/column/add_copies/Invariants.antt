use Rattle.std.proofs.Common.{◌≡◌, ◌++◌, take}
use Rattle.imkl_population.proofs.column.add_copies.Given as goal

abbrev pub invariant-loop-value : goal.invariant-loop-value
invariant-loop-value l = l.list.items ≡ l.initial.list.items ++ take l.value-index l.values
