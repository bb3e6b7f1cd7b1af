use Rattle.std.proofs.Common.{◌≡◌, None, vec_capacity}
use Rattle.rule_machine.specs.Shown.{HasRoomForRules, HasNoItems, HasRoomForRulesAlone}
use Rattle.rule_machine.proofs.machine.Machine.new.Given as goal

abbrev pub invariant-loop-rule : goal.invariant-loop-rule
invariant-loop-rule l =
    record {
      started : l.state.started ≡ None;
      count : l.state.count ≡ 0;
      room : HasRoomForRules l.accepted.model l.accepted.unit l.rule l.state;
      empty : HasNoItems l.state;
      alone : HasRoomForRulesAlone l.accepted.model l.accepted.unit l.rule l.state;
      pool : vec_capacity l.state.pool ≡ 0;
    }
