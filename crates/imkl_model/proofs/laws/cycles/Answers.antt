use Rattle.imkl_model.proofs.Cycles.{cyclic-decides}
use Rattle.imkl_model.proofs.laws.cycles.Goals as goal

pub returns : goal.returns
returns c = cyclic-decides
