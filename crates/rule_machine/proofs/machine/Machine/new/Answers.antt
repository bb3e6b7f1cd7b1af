use Rattle.std.proofs.Common.{subst, ap, ◌∙◌, vec_capacity}
use Rattle.rule_machine.specs.Shown.{HasRoomFor, HasRoomOfBoth}
use Rattle.rule_machine.proofs.Reserved.{alone_next, room_next}
use Rattle.rule_machine.proofs.machine.Machine.new.Goals as goal

pub loop-rule-preserved : goal.loop-rule-preserved
loop-rule-preserved c =
    let u = c.args.accepted.now.unit in
    let model = c.args.accepted.now.model in
    let rule = c.loop-rule.rule in
    let old = c.loop-rule.state in
    let new = c.reserve.new.self in
    let had = c.loop-rule.invariant in
    let made = c.in_ok-reserve.ensures in
    record {
      started = made.started ∙ had.started;
      count = made.count ∙ had.count;
      room = room_next model u rule old new (subst (λ d. HasRoomFor d new) c.depths.ensures made.room) made.operands made.variables made.pieces had.room;
      empty = made.empty;
      alone = alone_next model u rule old new (subst (λ d. HasRoomOfBoth d old new) c.depths.ensures made.exact) had.alone;
      pool = ap vec_capacity made.pool ∙ had.pool;
    }
