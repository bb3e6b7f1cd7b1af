use Rattle.std.proofs.Common.{◌≡◌, ◌≤◌, length, drop, None}
use Rattle.ocl_types.specs.ScopeIndex.{last_feature}
use Rattle.ocl_types.proofs.scope.innermost_feature.Given as goal

abbrev pub invariant-variables : goal.invariant-variables
invariant-variables l = (l.left ≤ length l.variables) × (last_feature l.model l.name (drop l.left l.variables) ≡ None)

abbrev pub decreases-variables : goal.decreases-variables
decreases-variables l = l.left
