use Rattle.std.proofs.Common.{true}
use Rattle.ocl_check.specs.Verify.{verify_answer}
use Rattle.ocl_check.proofs.commands.verify.verify_inputs.Goals as goal

pub returns : goal.returns
returns g c = c.answer.ensures true (verify_answer c.args.model.now c.args.code.now) c.verify_reply.ensures
