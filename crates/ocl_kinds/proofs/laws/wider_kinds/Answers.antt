use Rattle.ocl_kinds.proofs.ForAbove.{wider_is_one, both_fit_wider, fitted_is_wider, wider_commutes}
use Rattle.ocl_kinds.proofs.laws.wider_kinds.Goals as goal

pub returns-clause-one : goal.returns-clause-one
returns-clause-one c = wider_is_one

pub returns-clause-fit : goal.returns-clause-fit
returns-clause-fit c = both_fit_wider

pub returns-clause-there : goal.returns-clause-there
returns-clause-there c = fitted_is_wider

pub returns-clause-commutes : goal.returns-clause-commutes
returns-clause-commutes c = wider_commutes
