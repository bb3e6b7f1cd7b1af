use Rattle.std.proofs.Common.{false}
use Rattle.ocl_check.specs.Desk.{calls_answer}
use Rattle.ocl_check.specs.Given.{given_answer, pair_answer}
use Rattle.ocl_check.proofs.Given.{due}
use Rattle.ocl_check.proofs.commands.desk.RepliesCodeAsker.stop.Goals as goal

pub returns : goal.returns
returns g c = λ given fails. c.stop.ensures false (given_answer (pair_answer (calls_answer c.args.self.now.script.now)) given) (due c.args.why given (pair_answer (calls_answer c.args.self.now.script.now)) fails)
