use Rattle.ocl_check.specs.Bound.{bounds_answer}
use Rattle.ocl_check.proofs.Endings.{ending_as}
use Rattle.ocl_check.proofs.Given.{code_is_answered}
use Rattle.ocl_check.proofs.commands.bound.bound_inputs.Goals as goal

pub returns : goal.returns
returns g c = ending_as (code_is_answered bounds_answer c.args.model.now c.args.delivery.now c.args.code.now) c.ask_inputs.ensures
