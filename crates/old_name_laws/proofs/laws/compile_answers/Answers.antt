use Rattle.old_name_laws.proofs.Texts.{compile_stays}
use Rattle.old_name_laws.proofs.laws.compile_answers.Goals as goal

pub returns : goal.returns
returns c = compile_stays
