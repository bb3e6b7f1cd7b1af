use Rattle.rule_code.proofs.Units.{no_beginning}
use Rattle.rule_code.proofs.laws.one_spelling.Goals as goal

pub returns : goal.returns
returns c = no_beginning
