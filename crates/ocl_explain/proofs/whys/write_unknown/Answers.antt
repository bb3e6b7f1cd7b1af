use Rattle.std.proofs.Common.{false}
use Rattle.ocl_explain.proofs.whys.write_unknown.Goals as goal

pub returns : goal.returns
returns g c = c.write_answer.ensures false
