use Rattle.std.proofs.Common.{◌≡◌, ◌<◌, ℕ, false}
use Rattle.imkl_model.specs.Groups.{model_with, shares}
use Rattle.imkl_model.proofs.shared_names.any_shared.Given as goal

abbrev pub invariant-loop-number : goal.invariant-loop-number
invariant-loop-number l = (f : ℕ) → f < l.number → shares (model_with l.classes l.aliases) (model_with l.classes l.features) f ≡ false
