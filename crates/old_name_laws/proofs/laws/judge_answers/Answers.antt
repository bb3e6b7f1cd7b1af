use Rattle.old_name_laws.proofs.Answers.{judge_stays}
use Rattle.old_name_laws.proofs.laws.judge_answers.Goals as goal

pub returns : goal.returns
returns c = judge_stays (λ m d p is. (c.descriptions.ensures m d p is).3.model)
