use Rattle.ocl_text.specs.View.{rule_of}
use Rattle.ocl_types.proofs.TypedWalk.{returned_typed}
use Rattle.ocl_types.proofs.rules.check.Goals as goal

pub returns-clause-typed : goal.returns-clause-typed
returns-clause-typed c = returned_typed c.args.model.now c.well_formed-2.ensures (rule_of c.args.rule.now) c.core_rule.result c.core_rule.ensures.gives
