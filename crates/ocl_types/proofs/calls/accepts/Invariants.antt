use Rattle.std.proofs.Common.{◌≡◌, drop}
use Rattle.ocl_types.specs.Operators.{accepts}
use Rattle.ocl_types.proofs.calls.accepts.Given as goal

abbrev pub invariant-parameters : goal.invariant-parameters
invariant-parameters l = accepts l.model l.parameters l.kinds ≡ accepts l.model (drop l.i l.parameters) (drop l.i l.kinds)
