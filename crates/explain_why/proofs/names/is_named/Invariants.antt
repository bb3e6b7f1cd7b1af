use Rattle.std.proofs.Common.{◌≡◌, drop, map, bytes_eq, string_bytes}
use Rattle.ocl_base.specs.Lists.{is_among}
use Rattle.explain_why.proofs.names.is_named.Given as goal

-- it is among all where it is among those that are left
abbrev pub invariant-names : goal.invariant-names
invariant-names l = is_among bytes_eq (map string_bytes l.names) l.name ≡ is_among bytes_eq (map string_bytes (drop l.other-index l.names)) l.name
