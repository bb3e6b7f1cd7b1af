use Rattle.std.proofs.Common.{refl, subst, ap, ◌∷◌, ◌∙◌}
use Rattle.rule_machine.specs.declared.piece.Piece.TheVariants as piece
use Rattle.rule_machine.specs.StandFor.{IsAt}
use Rattle.rule_machine.specs.Shown.{code_in, setting_in, task_lists, ArePiecesIn}
use Rattle.rule_machine.proofs.MarkSteps.{skip_steps}
use Rattle.rule_machine.proofs.Lies.{is_with}
use Rattle.rule_machine.proofs.TurnEnds.{same_front}
use Rattle.rule_machine.proofs.state.State.skip.Goals as goal

pub returns : goal.returns
returns c =
    let m = c.args.self.now in
    let r = c.requires in
    let t = c.args.task in
    let s = setting_in t in
    let l = task_lists t in
    let code = code_in t in
    let ec = same_front m.pieces.0 piece.Skipped _ r.top.0 c.pop.new.self.0 r.top.1 c.in-Some.ensures.items in
    record {
      made = λ x i n.
          let st = skip_steps s l code m.pool.items m.at m.end c.pop.new.self.0 m.variables.0 m.operands.0 x r.at_end (subst (λ k. IsAt s l code m.pool.items m.at m.end k m.variables.0 m.operands.0 x) ec i) in
          (st.next, st.made, is_with s l code m.pool.items _ _ _ _ _ _ _ _ st.next refl refl (c.push.ensures.items ∙ ap (λ o. o ∷ m.operands.0) c.invalid_slot.ensures) st.stands);
      place = record { order = r.place.order; within = r.place.within; pending = (subst (ArePiecesIn code) ec r.place.pending).1 };
      kept = record { started = refl; count = refl; room = record { operands = c.push.ensures.room; variables = refl; pieces = c.in-Some.ensures.room } };
    }
