use Rattle.std.proofs.Common.{arith, refl, ap}
use Rattle.std.proofs.lemmas.Result.{err_from_is_err_and}
use Rattle.ocl_base.proofs.ForAbove.{not_both}
use Rattle.rule_machine.specs.Shown.{code_in, setting_in, task_lists}
use Rattle.rule_machine.proofs.InstrSteps.{can_perform, plain_steps}
use Rattle.rule_machine.proofs.Lies.{is_with, is_under, listed, gathers_none}
use Rattle.rule_machine.proofs.state.State.carry_out.Goals as goal

pub perform-requires-clause-can : goal.perform-requires-clause-can
perform-requires-clause-can c =
    let m = c.args.self.now in
    let r = c.requires in
    let t = c.args.task in
    can_perform (setting_in t) (task_lists t) (code_in t) m.pool.items m.at m.end m.pieces.0 m.variables.0 m.operands.0 c.args.instr r.goes.0 r.before_end r.place.within r.here r.goes.1 r.goes.2 r.shape

pub returns-in_err-perform-clause-refused : goal.returns-in_err-perform-clause-refused
returns-in_err-perform-clause-refused c =
    let m = c.args.self.now in
    let r = c.requires in
    let t = c.args.task in
    let f = c.in_err-perform.ensures in
    let p = err_from_is_err_and c.from_residual.result c.from_residual.ensures.1 in
    let ops = ap (λ s. s.0) f.operands in
    rw p.1 (record {
      same = λ x i. is_under (setting_in t) (task_lists t) (code_in t) m.pool.items _ m.at m.end m.pieces.0 m.variables.0 _ x f.pool (is_with (setting_in t) (task_lists t) (code_in t) m.pool.items m.at m.end _ _ _ _ _ _ x refl refl ops i);
      place = r.place;
      kept = record { started = refl; count = refl; room = record { operands = c.perform.ensures.room; variables = refl; pieces = refl } };
    })

pub returns-in_err-perform-clause-spare : goal.returns-in_err-perform-clause-spare
returns-in_err-perform-clause-spare c =
    let m = c.args.self.now in
    let code = code_in c.args.task in
    λ none. absurd (not_both c.perform.result _ c.in_err-perform.was (c.perform.ensures.spare (gathers_none code c.args.instr (listed code m.at c.args.instr c.requires.here) none)))

pub returns-clause-made : goal.returns-clause-made
returns-clause-made c =
    let m = c.args.self.now in
    let r = c.requires in
    let t = c.args.task in
    let f = c.in_ok-perform.ensures.made in
    let q = c.perform.new.pool.items in
    record {
      made = λ x i n.
          let st = plain_steps (setting_in t) (task_lists t) (code_in t) m.pool.items m.at m.end m.pieces.0 m.variables.0 m.operands.0 c.args.instr x r.before_end r.place.within r.here i n q f.result r.shape f.longer f.same f.gives in
          (st.next, st.made, is_with (setting_in t) (task_lists t) (code_in t) q _ _ _ _ _ _ _ _ st.next refl refl f.operands st.stands);
      place = record { order = omega (arith, r.before_end); within = r.place.within; pending = r.place.pending };
      kept = record { started = refl; count = refl; room = record { operands = c.perform.ensures.room; variables = refl; pieces = refl } };
    }
