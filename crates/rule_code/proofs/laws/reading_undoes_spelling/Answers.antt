use Rattle.rule_code.proofs.Units.{unit_of-iff}
use Rattle.rule_code.proofs.laws.reading_undoes_spelling.Goals as goal

pub returns : goal.returns
returns c = unit_of-iff
