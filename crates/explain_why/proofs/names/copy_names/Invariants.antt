use Rattle.std.proofs.Common.{◌≡◌, ◌++◌, drop, map, string_bytes}
use Rattle.explain_why.proofs.names.copy_names.Given as goal

-- those that were copied, and those that are left
abbrev pub invariant-names : goal.invariant-names
invariant-names l = map string_bytes l.copies.items ++ map string_bytes (drop l.name-index l.names) ≡ map string_bytes l.names
