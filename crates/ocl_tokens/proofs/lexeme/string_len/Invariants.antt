use Rattle.std.proofs.Common.{◌≡◌, ◌<◌, drop, false, None}
use Rattle.std.specs.Prelude.{IfSome}
use Rattle.ocl_tokens.specs.FirstLexeme as spec
use Rattle.ocl_tokens.proofs.lexeme.string_len.Given as goal

abbrev pub invariant-string : goal.invariant-string
invariant-string l = (spec.string_from l.escaped l.bad l.at (drop l.at l.bytes) ≡ spec.string_from false None 0 l.bytes) × IfSome l.bad (λ p. p < l.at)
