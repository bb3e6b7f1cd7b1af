use Rattle.ocl_check.proofs.Endings.{ending_as}
use Rattle.ocl_check.proofs.outcome.answer.Goals as goal

pub returns-in-Ok : goal.returns-in-Ok
returns-in-Ok g c = λ is_whole a h. ending_as (rw c.in-Ok.is at h) (c.say.ensures is_whole)
