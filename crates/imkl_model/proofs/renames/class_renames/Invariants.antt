use Rattle.std.proofs.Common.{◌≡◌, ◌++◌, drop}
use Rattle.imkl_model.specs.Shape.{class_renames_of}
use Rattle.imkl_model.proofs.renames.class_renames.Given as goal

abbrev pub invariant-loop-rename : goal.invariant-loop-rename
invariant-loop-rename l = l.found.items ++ class_renames_of (drop l.rename-index l.renames) ≡ class_renames_of l.renames
