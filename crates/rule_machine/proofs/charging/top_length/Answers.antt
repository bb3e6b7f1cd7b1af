use Rattle.std.proofs.Common.{◌∙◌}
use Rattle.rule_machine.proofs.NextCharge.{top_there, none_there}
use Rattle.rule_machine.proofs.charging.top_length.Goals as goal

pub returns-in-Some : goal.returns-in-Some
returns-in-Some c = c.length_of.ensures ∙ top_there c.args.operands.now.0 c.in-Some.value.now c.in-Some.ensures

pub returns-in-None : goal.returns-in-None
returns-in-None c = none_there c.args.operands.now.0 c.in-None.ensures
