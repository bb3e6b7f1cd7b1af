use Rattle.old_name_laws.proofs.Stable.{checks_stay}
use Rattle.old_name_laws.proofs.laws.checks.Goals as goal

pub returns : goal.returns
returns c = checks_stay c.symbols.ensures.present
