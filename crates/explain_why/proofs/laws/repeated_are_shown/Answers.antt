use Rattle.explain_why.proofs.Repeated.{repeated_are_shown}
use Rattle.explain_why.proofs.laws.repeated_are_shown.Goals as goal

pub returns : goal.returns
returns c = repeated_are_shown
