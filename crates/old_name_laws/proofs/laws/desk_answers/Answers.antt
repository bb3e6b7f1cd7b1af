use Rattle.old_name_laws.proofs.Answers.{desk_stays}
use Rattle.old_name_laws.proofs.laws.desk_answers.Goals as goal

pub returns : goal.returns
returns c = desk_stays (λ m d p is. (c.descriptions.ensures m d p is).3.model)
