use Rattle.std.proofs.Common.{◌∙◌, subst}
use Rattle.rule_machine.specs.declared.piece.Piece.TheVariants as piece
use Rattle.rule_machine.specs.StandFor.{Between}
use Rattle.rule_machine.specs.Shown.{code_in, setting_in, task_lists, ArePiecesIn}
use Rattle.rule_machine.proofs.TurnEnds.{same_front}
use Rattle.rule_machine.proofs.Lies.{same_turn, same_below}
use Rattle.rule_machine.proofs.state.State.finish.Goals as goal

pub end_turns-requires-clause-between : goal.end_turns-requires-clause-between
end_turns-requires-clause-between c =
    let m = c.args.self.now in
    let o = c.requires.on_top in
    let t = c.args.task in
    let u = c.top_turn-turn.result.now in
    let f = c.top_turn-turn.ensures in
    let b1 = subst (λ k. Between (setting_in t) (task_lists t) (code_in t) m.pool.items k c.args.last o.below m.variables.0 m.operands.0 o.somewhere.0) (same_turn m.pieces.0 o.after u o.below f.0 o.first f.1) o.somewhere.1 in
    let below = same_below m.pieces.0 o.after u o.below c.pop.new.self.0 o.first (same_front m.pieces.0 (piece.Turning u) _ f.0 c.pop.new.self.0 f.1 c.in-Some.ensures.items) in
    (o.somewhere.0, subst (λ k. Between (setting_in t) (task_lists t) (code_in t) m.pool.items u c.args.last k m.variables.0 m.operands.0 o.somewhere.0) below b1)

pub end_turns-requires-clause-place : goal.end_turns-requires-clause-place
end_turns-requires-clause-place c =
    let m = c.args.self.now in
    let o = c.requires.on_top in
    let u = c.top_turn-turn.result.now in
    let f = c.top_turn-turn.ensures in
    let below = same_below m.pieces.0 o.after u o.below c.pop.new.self.0 o.first (same_front m.pieces.0 (piece.Turning u) _ f.0 c.pop.new.self.0 f.1 c.in-Some.ensures.items) in
    record { order = o.place.order; within = o.place.within; pending = subst (ArePiecesIn (code_in c.args.task)) below o.place.pending }

pub returns : goal.returns
returns c =
    let m = c.args.self.now in
    let t = c.args.task in
    let s = setting_in t in
    let l = task_lists t in
    let code = code_in t in
    let p = m.pool.items in
    let last = c.args.last in
    let u = c.top_turn-turn.result.now in
    let f = c.top_turn-turn.ensures in
    let front = same_front m.pieces.0 (piece.Turning u) _ f.0 c.pop.new.self.0 f.1 c.in-Some.ensures.items in
    let went = c.end_turns.ensures in
    record {
      made = λ after below d top b.
          let b1 = subst (λ k. Between s l code p k last below m.variables.0 m.operands.0 d) (same_turn m.pieces.0 after u below f.0 top f.1) b in
          let b2 = subst (λ k. Between s l code p u last k m.variables.0 m.operands.0 d) (same_below m.pieces.0 after u below c.pop.new.self.0 top front) b1 in
          went.made d b2;
      place = went.place;
      kept = record { started = went.kept.started; count = went.kept.count; room = record { operands = went.kept.room.operands; variables = went.kept.room.variables; pieces = went.kept.room.pieces ∙ c.in-Some.ensures.room } };
    }
