use Rattle.std.proofs.Common.{◌≡◌, ◌++◌, drop}
use Rattle.imkl_model.specs.Shape.{feature_renames_of}
use Rattle.imkl_model.proofs.renames.feature_renames.Given as goal

abbrev pub invariant-loop-rename : goal.invariant-loop-rename
invariant-loop-rename l = l.found.items ++ feature_renames_of (drop l.rename-index l.renames) ≡ feature_renames_of l.renames
