use Rattle.ocl_check.specs.Desk.{calls_answer}
use Rattle.ocl_check.proofs.Endings.{ending_as}
use Rattle.ocl_check.proofs.Given.{code_is_answered}
use Rattle.ocl_check.proofs.commands.desk.reply_inputs.Goals as goal

pub returns : goal.returns
returns g c = ending_as (code_is_answered (calls_answer c.args.script.now) c.args.model.now c.args.delivery.now c.args.code.now) c.ask_inputs.ensures
