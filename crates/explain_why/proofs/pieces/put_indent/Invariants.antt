use Rattle.std.proofs.Common.{◌≡◌, ◌++◌, string_bytes}
use Rattle.explain_why.specs.Explanation.{indent}
use Rattle.explain_why.proofs.pieces.put_indent.Given as goal

-- what was put
abbrev pub invariant-loop : goal.invariant-loop
invariant-loop l = string_bytes l.out ≡ string_bytes l.initial.out ++ indent l.counter
