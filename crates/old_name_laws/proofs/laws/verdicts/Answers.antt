use Rattle.old_name_laws.proofs.Stable.{verdicts_stay}
use Rattle.old_name_laws.proofs.laws.verdicts.Goals as goal

pub returns : goal.returns
returns c = verdicts_stay c.symbols.ensures.present
