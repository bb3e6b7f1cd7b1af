use Rattle.rule_machine.proofs.Lies.{turn_made, is_between}
use Rattle.rule_machine.proofs.state.State.first_turn.Goals as goal

pub go_on-requires-clause-between : goal.go_on-requires-clause-between
go_on-requires-clause-between c = is_between c.args.task c.args.turn c.leave_opening-start.result c.args.self.now c.leave_opening-start.new.self c.requires.goes c.leave_opening-start.ensures.over

pub returns : goal.returns
returns c = turn_made c.args.task c.args.turn c.leave_opening-start.result c.args.self.now c.leave_opening-start.new.self c.go_on.new.self c.leave_opening-start.ensures.over c.go_on.ensures
