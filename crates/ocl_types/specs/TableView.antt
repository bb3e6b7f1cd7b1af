-- What the rows of the code's table are.
use Rattle.ocl_types.specs.declared.table.Effect as declared
use Rattle.ocl_types.specs.declared.table.Effect.TheVariants as e
use Rattle.ocl_types.specs.declared.table.Operation.{Operation}
use Rattle.ocl_types.specs.Operators.{Effect, Plainly, OnElements, OperationRow}

abbrev pub effect_of : declared.Effect → Effect
effect_of (e.Plainly operator parameters result) = Plainly operator parameters.now result
effect_of (e.OnElements operator) = OnElements operator

abbrev pub operation_row_of : Operation → OperationRow
operation_row_of r = record { name = r.name.now; source = r.source; effect = effect_of r.effect; is_negated = r.is_negated }
