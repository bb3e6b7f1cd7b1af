use Rattle.std.proofs.Common.{◌≡◌, drop}
use Rattle.ocl_tokens.specs.FirstLexeme as spec
use Rattle.ocl_tokens.proofs.lexeme.comment_len.Given as goal

abbrev pub invariant-loop-at : goal.invariant-loop-at
invariant-loop-at l = spec.comment_from l.at (drop l.at l.bytes) ≡ spec.comment_from 0 l.bytes
