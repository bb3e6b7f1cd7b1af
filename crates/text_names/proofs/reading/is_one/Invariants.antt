use Rattle.std.proofs.Common.{◌≡◌, drop, map, bytes_eq}
use Rattle.ocl_base.specs.Lists.{is_among}
use Rattle.text_names.proofs.reading.is_one.Given as goal

-- it is among all where it is among those that are left
abbrev pub invariant-names : goal.invariant-names
invariant-names l = is_among bytes_eq (map (λ n. n.now) l.names) l.name ≡ is_among bytes_eq (map (λ n. n.now) (drop l.other-index l.names)) l.name
