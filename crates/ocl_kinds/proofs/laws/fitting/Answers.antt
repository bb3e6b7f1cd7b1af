use Rattle.ocl_kinds.proofs.ForAbove.{fits_itself, fits_along, fits_one_way}
use Rattle.ocl_kinds.proofs.laws.fitting.Goals as goal

pub returns-clause-reflexive : goal.returns-clause-reflexive
returns-clause-reflexive c = fits_itself

pub returns-clause-transitive : goal.returns-clause-transitive
returns-clause-transitive c = fits_along

pub returns-clause-one_way : goal.returns-clause-one_way
returns-clause-one_way c = fits_one_way
