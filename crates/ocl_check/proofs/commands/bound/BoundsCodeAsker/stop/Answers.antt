use Rattle.std.proofs.Common.{true}
use Rattle.ocl_check.specs.Bound.{bounds_answer}
use Rattle.ocl_check.specs.Given.{given_answer, pair_answer}
use Rattle.ocl_check.proofs.Given.{due}
use Rattle.ocl_check.proofs.commands.bound.BoundsCodeAsker.stop.Goals as goal

pub returns : goal.returns
returns g c = λ given fails. c.stop.ensures true (given_answer (pair_answer bounds_answer) given) (due c.args.why given (pair_answer bounds_answer) fails)
