use Rattle.std.proofs.Common.{◌≡◌, drop}
use Rattle.ocl_base.specs.Steps.{each}
use Rattle.imkl_model.specs.Numbering.{class_rename_in_scope}
use Rattle.ocl_base.proofs.ForAbove.{with_front}
use Rattle.imkl_model.proofs.numbering.class_renames_of.Given as goal

abbrev pub invariant-loop-rename : goal.invariant-loop-rename
invariant-loop-rename l = with_front l.found.items (each (class_rename_in_scope l.scope) (drop l.rename-index l.renames)) ≡ each (class_rename_in_scope l.scope) l.renames
