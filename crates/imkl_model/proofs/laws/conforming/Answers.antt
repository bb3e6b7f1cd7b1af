use Rattle.imkl_model.specs.ClassModel.{supers}
use Rattle.imkl_model.proofs.Warshall.{is_or_reaches-decides}
use Rattle.imkl_model.proofs.laws.conforming.Goals as goal

pub returns : goal.returns
returns c = λ m a b. is_or_reaches-decides (supers m) a b
