use Rattle.ocl_explain.proofs.whys.answer_named.Goals as goal

pub returns-in-Ok : goal.returns-in-Ok
returns-in-Ok g c = λ t named. c.answer_sized.ensures t named
