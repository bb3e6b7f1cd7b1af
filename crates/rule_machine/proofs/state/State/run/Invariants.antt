use Rattle.std.proofs.Common.{◌≤◌, ◌-◌}
use Rattle.rule_machine.specs.Shown.{IsTaskOf, SameRoom}
use Rattle.rule_machine.proofs.Ran.{StandsSomewhere, Came}
use Rattle.rule_machine.proofs.state.State.run.Given as goal

abbrev pub invariant-steps : goal.invariant-steps
invariant-steps l =
    record {
      left : l.left ≤ l.grant;
      rule : IsTaskOf l.task l.self;
      stands : StandsSomewhere l.task l.self;
      came : Came l.task l.fn.self (l.grant - l.left) l.self;
      room : SameRoom l.fn.self l.self;
    }

abbrev pub decreases-steps : goal.decreases-steps
decreases-steps l = l.left
