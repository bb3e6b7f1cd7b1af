use Rattle.std.proofs.Common.{arith, refl, ◌∙◌, ◌≤◌, ◌+◌, ◌∷◌, sym, ap, subst}
use Rattle.rule_machine.specs.declared.piece.Piece.TheVariants as piece
use Rattle.rule_machine.specs.StandFor.{opening_mark}
use Rattle.rule_machine.specs.Shown.{code_in, setting_in, task_lists, ArePiecesIn}
use Rattle.rule_machine.proofs.Blocks.{fold_iterates}
use Rattle.rule_machine.proofs.InstrSteps.{block_nests, block_has_operand, fold_has_source, fold_steps}
use Rattle.rule_machine.proofs.Lies.{is_with, mark_in}
use Rattle.rule_machine.proofs.state.State.open_fold.Goals as goal

pub unreachable-requires : goal.unreachable-requires
unreachable-requires c =
    let m = c.args.self.now in
    let r = c.requires in
    let t = c.args.task in
    block_nests (setting_in t) (task_lists t) (code_in t) m.pool.items m.at m.end m.pieces.0 m.variables.0 m.operands.0 c.args.instr r.goes.0 r.before_end r.place.within r.here r.goes.1 r.goes.2 c.args.body r.shape (omega (arith, c.if-body-self.true, r.before_end))

pub unreachable-requires-in_default : goal.unreachable-requires-in_default
unreachable-requires-in_default c =
    let m = c.args.self.now in
    let r = c.requires in
    let t = c.args.task in
    block_has_operand (setting_in t) (task_lists t) (code_in t) m.pool.items m.at m.end m.pieces.0 m.variables.0 m.operands.0 c.args.instr r.goes.0 r.before_end r.place.within r.here r.goes.1 r.goes.2 c.args.body r.shape (omega (arith, c.if-body-self.false, r.before_end)) c.in_default.ensures.items.0

pub unreachable-requires-in_default-pop : goal.unreachable-requires-in_default-pop
unreachable-requires-in_default-pop c =
    let m = c.args.self.now in
    let r = c.requires in
    let t = c.args.task in
    let one = c.in-Some.ensures.items ∙ ap (λ l. c.in-Some.start ∷ l) c.in_default-pop.ensures.items.0 in
    fold_has_source (setting_in t) (task_lists t) (code_in t) m.pool.items m.at m.end m.pieces.0 m.variables.0 m.operands.0 c.args.instr r.goes.0 r.before_end r.place.within r.here r.goes.1 r.goes.2 c.args.body r.shape r.above (omega (arith, c.if-body-self.false, r.before_end)) c.in-Some.start one

pub returns : goal.returns
returns c =
    let m = c.args.self.now in
    let r = c.requires in
    let t = c.args.task in
    let i = c.args.instr in
    let start = c.in-Some.start in
    let source = c.in-Some-pop.source in
    let left = c.pop-2.new.self.0 in
    let nests : m.at + 1 + c.args.body ≤ m.end = omega (arith, c.if-body-self.false, r.before_end) in
    let it = fold_iterates i r.above in
    let long = c.len.ensures ∙ m.pool.ok.0 in
    let em = c.iteration_piece.ensures ∙ ap (opening_mark i (m.at + 1) (m.at + 1 + c.args.body) source) long in
    let ec = c.push-2.ensures.items ∙ ap (λ l. c.iteration_piece.result ∷ l) c.push.ensures.items ∙ ap (λ k. k ∷ piece.Rest (m.at + 1 + c.args.body) m.end ∷ m.pieces.0) em in
    let two = c.in-Some.ensures.items ∙ ap (λ l. start ∷ l) c.in-Some-pop.ensures.items in
    record {
      made = λ x is n.
          let st = fold_steps (setting_in t) (task_lists t) (code_in t) m.pool.items m.at m.end m.pieces.0 m.variables.0 m.operands.0 i x r.before_end r.place.within r.here is n c.args.body r.shape r.above nests start source left two in
          (st.next, st.made, is_with (setting_in t) (task_lists t) (code_in t) m.pool.items _ _ _ _ _ _ _ _ st.next ec refl c.leave_start.ensures.items st.stands);
      place = record {
        order = omega arith;
        within = omega (arith, nests, r.place.within);
        pending = subst (ArePiecesIn (code_in t)) (sym ec) (mark_in (code_in t) i (m.at + 1) (m.at + 1 + c.args.body) source _ it (omega arith) (omega (arith, nests, r.place.within)) m.at r.here, ((nests, r.place.within), r.place.pending));
      };
      kept = record { started = refl; count = refl; room = record { operands = c.leave_start.ensures.room ∙ c.in-Some-pop.ensures.room ∙ c.in-Some.ensures.room; variables = refl; pieces = c.push-2.ensures.room ∙ c.push.ensures.room } };
    }
