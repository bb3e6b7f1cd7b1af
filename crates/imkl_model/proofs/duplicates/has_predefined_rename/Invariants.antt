use Rattle.std.proofs.Common.{◌≡◌, map, drop}
use Rattle.std.specs.List.{list_any}
use Rattle.imkl_model.specs.Words.{is_predefined}
use Rattle.imkl_model.proofs.duplicates.has_predefined_rename.Given as goal

abbrev pub invariant-loop-rename : goal.invariant-loop-rename
invariant-loop-rename l = list_any is_predefined (map (λ r. r.old) (drop l.rename-index l.renames)) ≡ list_any is_predefined (map (λ r. r.old) l.renames)
