use Rattle.explain_why.proofs.LeftOut.{others_decide_nothing, first_decides_nothing}
use Rattle.explain_why.proofs.laws.left_out_decides_nothing.Goals as goal

pub returns-clause-others : goal.returns-clause-others
returns-clause-others c = others_decide_nothing

pub returns-clause-first : goal.returns-clause-first
returns-clause-first c = first_decides_nothing
