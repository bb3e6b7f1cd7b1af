use Rattle.imkl_population.proofs.Stored.{nothing-laid_out}
use Rattle.imkl_population.proofs.column.Column.with_capacity.Goals as goal

pub invariant_of-result : goal.invariant_of-result
invariant_of-result c = nothing-laid_out c.in_ok-with_capacity.field-0.items c.in_ok-with_capacity-2.field-0.items c.in_ok-with_capacity.ensures.items c.in_ok-with_capacity-2.ensures.items
