use Rattle.rule_machine.specs.Seen.{seen_in}
use Rattle.rule_machine.proofs.Ran.{judged_stands}
use Rattle.rule_machine.proofs.state.State.judge.Goals as goal

pub returns-clause-stands : goal.returns-clause-stands
returns-clause-stands c =
    judged_stands (seen_in c.args.task c.args.self.now) c.args.task.rule c.args.object c.judge_counted.result (seen_in c.args.task c.judge_counted.new.self) c.judge_counted.ensures.judged
