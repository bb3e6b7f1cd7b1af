use Rattle.std.proofs.Common.{length}
use Rattle.ocl_explain.proofs.given_names.+given_for.Given as goal

abbrev pub decreases-given_for : goal.decreases-given_for
decreases-given_for l = length l.names.now
