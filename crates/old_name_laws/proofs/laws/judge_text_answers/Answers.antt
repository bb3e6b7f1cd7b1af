use Rattle.old_name_laws.proofs.Texts.{judge_text_stays}
use Rattle.old_name_laws.proofs.laws.judge_text_answers.Goals as goal

pub returns : goal.returns
returns c =
    judge_text_stays c.symbols.ensures.none c.compiled_is_accepted.ensures
    (λ m d p is. (c.descriptions.ensures m d p is).3.model)
