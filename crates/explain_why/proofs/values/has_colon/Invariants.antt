use Rattle.std.proofs.Common.{◌≡◌, drop}
use Rattle.explain_why.specs.Values.{has_colon}
use Rattle.explain_why.proofs.values.has_colon.Given as goal

-- one of all is where one that is left is
abbrev pub invariant-loop-byte : goal.invariant-loop-byte
invariant-loop-byte l = has_colon l.bytes ≡ has_colon (drop l.byte-index l.bytes)
