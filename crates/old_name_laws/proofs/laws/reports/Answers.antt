use Rattle.old_name_laws.proofs.Stable.{reports_stay}
use Rattle.old_name_laws.proofs.laws.reports.Goals as goal

pub returns : goal.returns
returns c = reports_stay c.symbols.ensures.present
