use Rattle.old_name_laws.proofs.Stable.{bounds_stay, admissions_stay}
use Rattle.old_name_laws.proofs.laws.bounds.Goals as goal

pub returns-clause-bounds : goal.returns-clause-bounds
returns-clause-bounds c = bounds_stay c.symbols.ensures.present

pub returns-clause-admissions : goal.returns-clause-admissions
returns-clause-admissions c = admissions_stay c.symbols.ensures.present
