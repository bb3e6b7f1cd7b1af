use Rattle.std.proofs.Common.{◌≡◌, ◌≤◌, ◌-◌, true, All, take}
use Rattle.imkl_population.specs.Values.{is_over}
use Rattle.imkl_population.proofs.column.Column.first_over.Given as goal

abbrev pub invariant-loop-entry : goal.invariant-loop-entry
invariant-loop-entry l = All (λ e. is_over l.upper (e.end - e.start) ≡ true → l.first ≤ e.object) (take l.entry-index l.entry-items)
