use Rattle.explain_why.proofs.ObjectTexts.{objects_are_told_apart, introduced_are_told_apart}
use Rattle.explain_why.proofs.laws.objects_are_told_apart.Goals as goal

pub returns-clause-alone : goal.returns-clause-alone
returns-clause-alone c = objects_are_told_apart

pub returns-clause-introduced : goal.returns-clause-introduced
returns-clause-introduced c = introduced_are_told_apart
