use Rattle.ocl_check.proofs.Given.{said_due}
use Rattle.ocl_check.proofs.outcome.stop.Goals as goal

pub returns : goal.returns
returns g c = λ is_whole a due. c.answer.ensures is_whole a (said_due c.refusal_reply.result c.args.why a c.refusal_reply.ensures due)
