use Rattle.std.proofs.Common.{◌∙◌}
use Rattle.rule_machine.proofs.NextCharge.{second_there, no_second}
use Rattle.rule_machine.proofs.charging.second_length.Goals as goal

pub returns-in-Some : goal.returns-in-Some
returns-in-Some c = c.length_of.ensures ∙ second_there c.args.operands.now.0 c.in-Some.value.now c.in-Some.ensures

pub returns-in-None : goal.returns-in-None
returns-in-None c = no_second c.args.operands.now.0 c.in-None.ensures
