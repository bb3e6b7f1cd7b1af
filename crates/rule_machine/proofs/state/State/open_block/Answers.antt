use Rattle.std.proofs.Common.{arith, refl, ◌∙◌, ◌≤◌, ◌+◌, ◌∷◌, sym, ap, subst}
use Rattle.rule_machine.proofs.Blocks.{let_of}
use Rattle.rule_machine.specs.declared.piece.Piece.TheVariants as piece
use Rattle.rule_machine.specs.StandFor.{opening_mark}
use Rattle.rule_machine.specs.Shown.{code_in, setting_in, task_lists, ArePiecesIn}
use Rattle.rule_machine.proofs.InstrSteps.{block_nests, block_has_operand, let_steps, iteration_steps}
use Rattle.rule_machine.proofs.Lies.{is_with, mark_in}
use Rattle.rule_machine.proofs.state.State.open_block.Goals as goal

pub unreachable-requires : goal.unreachable-requires
unreachable-requires c =
    let m = c.args.self.now in
    let r = c.requires in
    let t = c.args.task in
    block_nests (setting_in t) (task_lists t) (code_in t) m.pool.items m.at m.end m.pieces.0 m.variables.0 m.operands.0 c.args.instr r.goes.0 r.before_end r.place.within r.here r.goes.1 r.goes.2 c.args.body r.shape (omega (arith, c.if-body-self.true, r.before_end))

pub unreachable-requires-in_default : goal.unreachable-requires-in_default
unreachable-requires-in_default c =
    let m = c.args.self.now in
    let r = c.requires in
    let t = c.args.task in
    block_has_operand (setting_in t) (task_lists t) (code_in t) m.pool.items m.at m.end m.pieces.0 m.variables.0 m.operands.0 c.args.instr r.goes.0 r.before_end r.place.within r.here r.goes.1 r.goes.2 c.args.body r.shape (omega (arith, c.if-body-self.false, r.before_end)) c.in_default.ensures.items.0

pub returns-else-is_iteration : goal.returns-else-is_iteration
returns-else-is_iteration c =
    let m = c.args.self.now in
    let r = c.requires in
    let t = c.args.task in
    let nests : m.at + 1 + c.args.body ≤ m.end = omega (arith, c.if-body-self.false, r.before_end) in
    let is = let_of c.args.instr c.args.body r.shape (sym c.is_iteration.ensures ∙ c.if-is_iteration.false) in
    let ec = c.push-else-is_iteration-2.ensures.items ∙ ap (λ l. piece.LetEnd ∷ l) c.push.ensures.items in
    record {
      made = λ x i n.
          let st = let_steps (setting_in t) (task_lists t) (code_in t) m.pool.items m.at m.end m.pieces.0 m.variables.0 m.operands.0 c.args.instr x r.before_end r.place.within r.here i n c.args.body r.shape r.topmost is.0 is.1 nests c.in-Some.value c.pop.new.self.0 c.in-Some.ensures.items in
          (st.next, st.made, is_with (setting_in t) (task_lists t) (code_in t) m.pool.items _ _ _ _ _ _ _ _ st.next ec c.push-else-is_iteration.ensures.items refl st.stands);
      place = record { order = omega arith; within = omega (arith, nests, r.place.within); pending = subst (ArePiecesIn (code_in t)) (sym ec) (tt, ((nests, r.place.within), r.place.pending)) };
      kept = record { started = refl; count = refl; room = record { operands = c.in-Some.ensures.room; variables = c.push-else-is_iteration.ensures.room; pieces = c.push-else-is_iteration-2.ensures.room ∙ c.push.ensures.room } };
    }

pub returns-then-is_iteration : goal.returns-then-is_iteration
returns-then-is_iteration c =
    let m = c.args.self.now in
    let r = c.requires in
    let t = c.args.task in
    let nests : m.at + 1 + c.args.body ≤ m.end = omega (arith, c.if-body-self.false, r.before_end) in
    let it = sym c.is_iteration.ensures ∙ c.if-is_iteration.true in
    let long = c.len.ensures ∙ m.pool.ok.0 in
    let em = c.iteration_piece-mark.ensures ∙ ap (opening_mark c.args.instr (m.at + 1) (m.at + 1 + c.args.body) c.in-Some.value) long in
    let ec = c.push-then-is_iteration.ensures.items ∙ ap (λ l. c.iteration_piece-mark.result ∷ l) c.push.ensures.items ∙ ap (λ k. k ∷ piece.Rest (m.at + 1 + c.args.body) m.end ∷ m.pieces.0) em in
    record {
      made = λ x i n.
          let st = iteration_steps (setting_in t) (task_lists t) (code_in t) m.pool.items m.at m.end m.pieces.0 m.variables.0 m.operands.0 c.args.instr x r.before_end r.place.within r.here i n c.args.body r.shape r.topmost it nests c.in-Some.value c.pop.new.self.0 c.in-Some.ensures.items in
          (st.next, st.made, is_with (setting_in t) (task_lists t) (code_in t) m.pool.items _ _ _ _ _ _ _ _ st.next ec refl refl st.stands);
      place = record {
        order = omega arith;
        within = omega (arith, nests, r.place.within);
        pending = subst (ArePiecesIn (code_in t)) (sym ec) (mark_in (code_in t) c.args.instr (m.at + 1) (m.at + 1 + c.args.body) c.in-Some.value _ it (omega arith) (omega (arith, nests, r.place.within)) m.at r.here, ((nests, r.place.within), r.place.pending));
      };
      kept = record { started = refl; count = refl; room = record { operands = c.in-Some.ensures.room; variables = refl; pieces = c.push-then-is_iteration.ensures.room ∙ c.push.ensures.room } };
    }
