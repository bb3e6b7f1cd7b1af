use Rattle.old_name_laws.proofs.Answers.{bound_stays}
use Rattle.old_name_laws.proofs.laws.bound_answers.Goals as goal

pub returns : goal.returns
returns c = bound_stays (λ m d p is. (c.descriptions.ensures m d p is).3.model)
