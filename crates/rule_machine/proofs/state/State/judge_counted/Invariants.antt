use Rattle.std.proofs.Common.{◌-◌, ◌<◌}
use Rattle.rule_machine.specs.Laws.{rule_bound}
use Rattle.rule_machine.specs.Shown.{SameRoom}
use Rattle.rule_machine.proofs.Ran.{Standing}
use Rattle.rule_machine.proofs.state.State.judge_counted.Given as goal

abbrev pub invariant-steps : goal.invariant-steps
invariant-steps g l = (0 < l.share.parts) × Standing l.fn.task l.fn.object l.self l.book.total × SameRoom l.fn.self l.self

abbrev pub decreases-steps : goal.decreases-steps
decreases-steps g l = rule_bound l.fn.task.accepted.now.unit l.fn.task.population.now.content l.fn.task.rule - l.book.total
