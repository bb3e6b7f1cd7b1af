use Rattle.std.proofs.Common.{◌≡◌, ◌<◌, ◌^◌, drop}
use Rattle.ocl_tokens.specs.FirstLexeme as spec
use Rattle.ocl_tokens.proofs.lexeme.number_value.Given as goal

abbrev pub invariant-digits : goal.invariant-digits
invariant-digits l = (l.value < 2 ^ 63) × (spec.digits_after l.value (drop l.byte-index l.bytes) ≡ spec.digits_after 0 l.bytes)
