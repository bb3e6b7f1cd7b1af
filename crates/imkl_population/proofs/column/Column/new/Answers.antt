use Rattle.imkl_population.proofs.Stored.{nothing-laid_out}
use Rattle.imkl_population.proofs.column.Column.new.Goals as goal

pub invariant_of-result : goal.invariant_of-result
invariant_of-result c = nothing-laid_out c.new.result.items c.new-2.result.items c.new.ensures.items c.new-2.ensures.items
