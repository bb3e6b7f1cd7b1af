use Rattle.ocl_text.proofs.Wider.{one_list, wider_sum}
use Rattle.ocl_text.proofs.laws.rules_are_determined.Goals as goal

pub returns-clause-one : goal.returns-clause-one
returns-clause-one c = one_list

pub returns-clause-wider : goal.returns-clause-wider
returns-clause-wider c = wider_sum
