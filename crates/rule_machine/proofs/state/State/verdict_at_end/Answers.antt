use Rattle.std.proofs.Common.{◌<◌, ◌∷◌, [], Some, inl, inr, refl, arith, sym, ap, ◌∙◌, subst}
use Rattle.rule_machine.specs.StandFor.{IsAt}
use Rattle.rule_machine.specs.Shown.{code_in, setting_in, task_lists, ArePiecesIn, IsFirstMark}
use Rattle.rule_machine.proofs.Verdicts.{end_has_operand, end_is, rest_is, is_mark}
use Rattle.rule_machine.proofs.Lies.{is_with, tail_taken}
use Rattle.rule_machine.proofs.Rooms.{front_has_none}
use Rattle.rule_machine.proofs.state.State.verdict_at_end.Goals as goal

pub unreachable-requires : goal.unreachable-requires
unreachable-requires c =
    let t = c.args.task in
    let m = c.loop-self.self in
    let x = c.requires.goes.0 in
    let i = c.loop-self.invariant.same x c.requires.goes.1.is in
    let j = subst (λ k. IsAt (setting_in t) (task_lists t) (code_in t) m.pool.items m.at m.end k m.variables.0 m.operands.0 x) c.in-None.ensures i in
    end_has_operand (setting_in t) (task_lists t) (code_in t) m.pool.items m.at m.end m.variables.0 x c.loop-self-test.true (subst (λ k. IsAt (setting_in t) (task_lists t) (code_in t) m.pool.items m.at m.end [] m.variables.0 k x) c.in_default.ensures j)

pub returns-in-None-clause-outcome : goal.returns-in-None-clause-outcome
returns-in-None-clause-outcome c =
    let t = c.args.task in
    let m = c.loop-self.self in
    let top = c.in-Some-top.ensures in
    λ x g.
    let i = c.loop-self.invariant.same x g.is in
    let j = subst (λ k. IsAt (setting_in t) (task_lists t) (code_in t) m.pool.items m.at m.end k m.variables.0 m.operands.0 x) c.in-None.ensures i in
    let k = subst (λ k. IsAt (setting_in t) (task_lists t) (code_in t) m.pool.items m.at m.end [] m.variables.0 k x) top.1 j in
    end_is (setting_in t) (task_lists t) (code_in t) m.pool.items m.at m.end m.variables.0 c.in-Some-top.value.now top.0 x c.loop-self-test.true k g.truth ∙ ap Some (sym c.verdict_of.ensures)

pub loop-self-preserved : goal.loop-self-preserved
loop-self-preserved c =
    let t = c.args.task in
    let m = c.loop-self.self in
    let inv = c.loop-self.invariant in
    let s = setting_in t in
    let l = task_lists t in
    let code = code_in t in
    let top = c.in-Some.ensures in
    let ec = top.1 ∙ ap (λ k. k ∷ top.0) c.in-Rest.is in
    let tail = tail_taken c.pop.result m.pieces.0 c.pop.new.self.0 _ top.0 c.pop.ensures.items ec in
    let lies = subst (ArePiecesIn code) ec inv.place.pending in
    record {
      same = λ x i.
          let j = subst (λ k. IsAt s l code m.pool.items m.at m.end k m.variables.0 m.operands.0 x) ec (inv.same x i) in
          is_with s l code m.pool.items c.in-Rest.from c.in-Rest.end top.0 _ m.variables.0 _ m.operands.0 _ x tail refl refl (rest_is s l code m.pool.items m.at m.end c.in-Rest.from c.in-Rest.end top.0 m.variables.0 m.operands.0 x c.loop-self-test.true j);
      place = record { order = lies.0.0; within = lies.0.1; pending = subst (ArePiecesIn code) (sym tail) lies.1 };
      kept = record { started = inv.kept.started; count = inv.kept.count; room = record { operands = inv.kept.room.operands; variables = inv.kept.room.variables; pieces = c.pop.ensures.room ∙ inv.kept.room.pieces } };
    }

pub returns-in_default-mark : goal.returns-in_default-mark
returns-in_default-mark c =
    let inv = c.loop-self.invariant in
    let first = subst IsFirstMark (sym c.in-Some.ensures.1) (is_mark c.in-Some.mark.now c.in_default-mark.not-Rest) in
    record { same = inv; outcome = λ x g. front_has_none c.args.task c.loop-self.self x inv.place (inr first) (inv.same x g.is); front = inr first }

pub returns-clause-outcome : goal.returns-clause-outcome
returns-clause-outcome c =
    let inv = c.loop-self.invariant in
    let lt : c.loop-self.self.at < c.loop-self.self.end = omega (arith, inv.place.order, c.loop-self-test.false) in
    λ x g. front_has_none c.args.task c.loop-self.self x inv.place (inl lt) (inv.same x g.is)
