use Rattle.std.proofs.Common.{false}
use Rattle.ocl_check.specs.Given.{given_answer, meant_within}
use Rattle.ocl_check.proofs.Given.{due}
use Rattle.ocl_check.proofs.commands.judge.ReportTextAsker.stop.Goals as goal

pub returns : goal.returns
returns g c = λ given fails. c.stop.ensures false (given_answer (meant_within c.args.self.now.budget) given) (due c.args.why given (meant_within c.args.self.now.budget) fails)
