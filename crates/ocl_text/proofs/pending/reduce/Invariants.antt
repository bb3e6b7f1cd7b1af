use Rattle.std.proofs.Common.{◌≡◌, length}
use Rattle.ocl_text.specs.Pending as spec
use Rattle.ocl_text.specs.Pending.{waiting}
use Rattle.ocl_text.specs.View.{view}
use Rattle.ocl_text.proofs.pending.reduce.Given as goal

abbrev pub invariant-reduce : goal.invariant-reduce
invariant-reduce l = spec.reduce l.chain l.height (waiting l.fn.before) (view l.fn.operand) ≡ spec.reduce l.chain l.height (waiting l.pending) (view l.left)

abbrev pub decreases-reduce : goal.decreases-reduce
decreases-reduce l = length l.pending.items
