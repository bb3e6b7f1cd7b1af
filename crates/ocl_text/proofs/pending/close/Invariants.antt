use Rattle.std.proofs.Common.{◌≡◌, length}
use Rattle.ocl_text.specs.Pending as spec
use Rattle.ocl_text.specs.Pending.{waiting}
use Rattle.ocl_text.specs.View.{view}
use Rattle.ocl_text.proofs.pending.close.Given as goal

abbrev pub invariant-close : goal.invariant-close
invariant-close l = spec.closed (waiting l.fn.before) (view l.fn.operand) ≡ spec.closed (waiting l.pending) (view l.value)

abbrev pub decreases-close : goal.decreases-close
decreases-close l = length l.pending.items
