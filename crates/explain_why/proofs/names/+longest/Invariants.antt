use Rattle.std.proofs.Common.{length}
use Rattle.explain_why.proofs.names.+longest.Given as goal

abbrev pub decreases-longest : goal.decreases-longest
decreases-longest l = length l.names.now
