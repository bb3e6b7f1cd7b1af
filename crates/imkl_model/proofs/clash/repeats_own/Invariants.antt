use Rattle.std.proofs.Common.{ℕ, ◌<◌}
use Rattle.imkl_model.specs.Groups.{AreOfOneOwner}
use Rattle.imkl_model.proofs.clash.repeats_own.Given as goal

abbrev pub invariant-loop-number : goal.invariant-loop-number
invariant-loop-number l = (f g : ℕ) → f < l.number → AreOfOneOwner l.features f g → ⊥
