use Rattle.std.proofs.Common.{◌≡◌, drop}
use Rattle.ocl_base.specs.Steps.{each}
use Rattle.imkl_model.specs.Numbering.{feature_rename_in_scope}
use Rattle.ocl_base.proofs.ForAbove.{with_front}
use Rattle.imkl_model.proofs.numbering.feature_renames_of.Given as goal

abbrev pub invariant-loop-rename : goal.invariant-loop-rename
invariant-loop-rename l = with_front l.found.items (each (feature_rename_in_scope l.scope l.features) (drop l.rename-index l.renames)) ≡ each (feature_rename_in_scope l.scope l.features) l.renames
