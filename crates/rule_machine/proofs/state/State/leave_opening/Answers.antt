use Rattle.std.proofs.Common.{List, ◌∙◌, drop, inl, inr, refl, sym, ap, subst}
use Rattle.rule_slots.specs.declared.slot.Slot.{Slot}
use Rattle.rule_machine.specs.declared.piece.Piece.TheVariants as piece
use Rattle.rule_machine.specs.StandFor.{IsAt, Between}
use Rattle.rule_machine.specs.Shown.{code_in, setting_in, task_lists, ArePiecesIn}
use Rattle.rule_machine.proofs.Blocks.{above_is}
use Rattle.rule_machine.proofs.MarkSteps.{open_steps, start_there}
use Rattle.rule_machine.proofs.TurnEnds.{same_front}
use Rattle.rule_machine.proofs.state.State.leave_opening.Goals as goal

pub unreachable-requires-in_default-pop : goal.unreachable-requires-in_default-pop
unreachable-requires-in_default-pop c =
    let m = c.args.self.now in
    let r = c.requires in
    let t = c.args.task in
    let u = c.args.turn in
    let s = setting_in t in
    let l = task_lists t in
    let code = code_in t in
    let p = m.pool.items in
    let i = subst (λ k. IsAt s l code p m.at m.end k m.variables.0 m.operands.0 r.goes.0) r.top.1 r.goes.1 in
    start_there s l code p m.at m.end u r.top.0 m.variables.0 m.operands.0 r.goes.0 r.at_end i (λ e. c.if-operands_above-eq0.false (c.operands_above.ensures ∙ e)) c.in_default-pop.ensures.items.0

pub returns-then-operands_above-eq0-clause-over : goal.returns-then-operands_above-eq0-clause-over
returns-then-operands_above-eq0-clause-over c =
    let m = c.args.self.now in
    let r = c.requires in
    let t = c.args.task in
    let u = c.args.turn in
    let s = setting_in t in
    let l = task_lists t in
    let code = code_in t in
    let p = m.pool.items in
    let start = c.invalid_slot.result in
    let cs = c.pop.new.self.0 in
    let ec = same_front m.pieces.0 (piece.Opened u) _ r.top.0 cs r.top.1 c.in-Some.ensures.items in
    let lies = subst (ArePiecesIn code) ec r.place.pending in
    let none = sym c.operands_above.ensures ∙ c.if-operands_above-eq0.true in
    record {
      made = λ x i n.
          let st = open_steps s l code p m.at m.end u start cs m.variables.0 m.operands.0 x r.at_end (inl none) (subst (λ k. IsAt s l code p m.at m.end k m.variables.0 m.operands.0 x) ec i) in
          (st.0, st.1, subst (λ k. Between s l code p u start cs m.variables.0 (drop k m.operands.0) st.0) none st.2);
      turn = lies.0;
      place = record { order = r.place.order; within = r.place.within; pending = lies.1 };
      kept = record { started = refl; count = refl; room = record { operands = refl; variables = refl; pieces = c.in-Some.ensures.room } };
    }

pub returns-clause-over : goal.returns-clause-over
returns-clause-over c =
    let m = c.args.self.now in
    let r = c.requires in
    let t = c.args.task in
    let u = c.args.turn in
    let s = setting_in t in
    let l = task_lists t in
    let code = code_in t in
    let p = m.pool.items in
    let start = c.in-Some-pop.start in
    let cs = c.pop.new.self.0 in
    let os = c.pop-2.new.self.0 in
    let ec = same_front m.pieces.0 (piece.Opened u) _ r.top.0 cs r.top.1 c.in-Some.ensures.items in
    let lies = subst (ArePiecesIn code) ec r.place.pending in
    let one = above_is u.instr (λ e. c.if-operands_above-eq0.false (c.operands_above.ensures ∙ e)) in
    let left = ap (λ k. drop k m.operands.0) one ∙ ap (λ (l : List Slot). drop 1 l) c.in-Some-pop.ensures.items in
    record {
      made = λ x i n.
          let st = open_steps s l code p m.at m.end u start cs m.variables.0 m.operands.0 x r.at_end (inr (os, c.in-Some-pop.ensures.items)) (subst (λ k. IsAt s l code p m.at m.end k m.variables.0 m.operands.0 x) ec i) in
          (st.0, st.1, subst (λ k. Between s l code p u start cs m.variables.0 k st.0) left st.2);
      turn = lies.0;
      place = record { order = r.place.order; within = r.place.within; pending = lies.1 };
      kept = record { started = refl; count = refl; room = record { operands = c.in-Some-pop.ensures.room; variables = refl; pieces = c.in-Some.ensures.room } };
    }
