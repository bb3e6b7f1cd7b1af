use Rattle.imkl_model.proofs.ClashLaws.{clash-decides}
use Rattle.imkl_model.proofs.laws.clashes.Goals as goal

pub returns : goal.returns
returns c = clash-decides
