use Rattle.rule_values.proofs.ForAbove.{summation_single}
use Rattle.rule_values.proofs.laws.sums_are_integers.Goals as goal

pub returns : goal.returns
returns c = summation_single
