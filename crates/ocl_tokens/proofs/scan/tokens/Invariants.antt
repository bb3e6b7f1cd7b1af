use Rattle.std.proofs.Common.{length}
use Rattle.ocl_tokens.proofs.Progress.{Before}
use Rattle.ocl_tokens.proofs.scan.tokens.Given as goal

abbrev pub invariant-tokens : goal.invariant-tokens
invariant-tokens l = Before l.text l.all.items l.at l.rest

abbrev pub decreases-tokens : goal.decreases-tokens
decreases-tokens l = length l.rest
