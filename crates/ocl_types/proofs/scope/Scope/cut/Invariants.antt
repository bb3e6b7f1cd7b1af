use Rattle.std.proofs.Common.{◌≡◌, length, take}
use Rattle.ocl_types.proofs.scope.Scope.cut.Given as goal

abbrev pub invariant-inner : goal.invariant-inner
invariant-inner l = take l.len l.self ≡ take l.len l.fn.self

abbrev pub decreases-inner : goal.decreases-inner
decreases-inner l = length l.self
