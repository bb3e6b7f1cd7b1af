use Rattle.std.proofs.Common.{◌≡◌, map, take}
use Rattle.imkl_model.specs.Held.{alias_of}
use Rattle.imkl_model.proofs.rename_table.aliases_of.Given as goal

abbrev pub invariant-loop-rename : goal.invariant-loop-rename
invariant-loop-rename l = l.aliases.items ≡ map alias_of (take l.rename-index l.renames)
