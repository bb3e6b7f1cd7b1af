use Rattle.std.proofs.Common.{◌≡◌, ◌<◌, ℕ, false}
use Rattle.imkl_model.specs.Groups.{model_with, group_meets}
use Rattle.imkl_model.proofs.clash.has_clash.Given as goal

abbrev pub invariant-loop-number : goal.invariant-loop-number
invariant-loop-number l = (f : ℕ) → f < l.number → group_meets (model_with l.classes l.features) f ≡ false
