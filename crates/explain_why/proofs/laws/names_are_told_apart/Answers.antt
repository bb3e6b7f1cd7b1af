use Rattle.explain_why.proofs.NewNames.{next_names_are_new, names_differ_inside}
use Rattle.explain_why.proofs.laws.names_are_told_apart.Goals as goal

pub returns-clause-new : goal.returns-clause-new
returns-clause-new c = next_names_are_new

pub returns-clause-differ : goal.returns-clause-differ
returns-clause-differ c = names_differ_inside
