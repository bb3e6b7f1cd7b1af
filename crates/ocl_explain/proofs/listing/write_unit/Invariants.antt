use Rattle.std.proofs.Common.{◌≡◌, false}
use Rattle.ocl_explain.proofs.listing.write_unit.Given as goal

-- no write has failed
abbrev pub invariant-loop-rule : goal.invariant-loop-rule
invariant-loop-rule g l = g.S.Sink.has_failed l.sink ≡ false
