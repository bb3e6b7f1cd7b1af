use Rattle.old_name_laws.proofs.Answers.{verify_stays}
use Rattle.old_name_laws.proofs.laws.verify_answers.Goals as goal

pub returns : goal.returns
returns c = verify_stays
