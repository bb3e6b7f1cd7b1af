use Rattle.ocl_kinds.proofs.ForAbove.{both_fit_common, fitting_one_have_common, common_commutes}
use Rattle.ocl_kinds.proofs.laws.common_kinds.Goals as goal

pub returns-clause-fit : goal.returns-clause-fit
returns-clause-fit c = both_fit_common

pub returns-clause-there : goal.returns-clause-there
returns-clause-there c = fitting_one_have_common

pub returns-clause-commutes : goal.returns-clause-commutes
returns-clause-commutes c = common_commutes
