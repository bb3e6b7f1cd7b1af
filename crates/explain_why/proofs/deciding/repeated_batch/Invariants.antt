use Rattle.std.proofs.Common.{◌≡◌, drop, map}
use Rattle.owned_values.specs.Meant.{meant}
use Rattle.explain_why.specs.Explanation.{repeated_batch}
use Rattle.explain_why.proofs.deciding.repeated_batch.Given as goal

-- the batch of all is that of those that are left
abbrev pub invariant-loop-index : goal.invariant-loop-index
invariant-loop-index l = repeated_batch (map meant l.bodies) ≡ repeated_batch (map meant (drop l.index l.bodies))
