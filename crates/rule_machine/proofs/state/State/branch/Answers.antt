use Rattle.std.proofs.Common.{arith, refl, ap, ◌∙◌, sym, Some, ◌+◌, ◌∷◌, subst, ◌≤◌}
use Rattle.rule_machine.specs.Shown.{code_in, setting_in, task_lists, ArePiecesIn}
use Rattle.rule_machine.proofs.InstrSteps.{BranchSteps, branch_nests, branch_has_operand, branch_steps}
use Rattle.rule_machine.proofs.Lies.{is_with}
use Rattle.rule_machine.proofs.state.State.branch.Goals as goal

pub unreachable-requires : goal.unreachable-requires
unreachable-requires c =
    let m = c.args.self.now in
    let r = c.requires in
    let t = c.args.task in
    branch_nests (setting_in t) (task_lists t) (code_in t) m.pool.items m.at m.end m.pieces.0 m.variables.0 m.operands.0 c.args.instr r.goes.0 r.before_end r.place.within r.here r.goes.1 r.goes.2 c.args.first c.args.second r.shape (omega (arith, c.if-first-left.true, r.before_end))

pub unreachable-requires-then-second-left : goal.unreachable-requires-then-second-left
unreachable-requires-then-second-left c =
    let m = c.args.self.now in
    let r = c.requires in
    let t = c.args.task in
    branch_nests (setting_in t) (task_lists t) (code_in t) m.pool.items m.at m.end m.pieces.0 m.variables.0 m.operands.0 c.args.instr r.goes.0 r.before_end r.place.within r.here r.goes.1 r.goes.2 c.args.first c.args.second r.shape (omega (arith, c.if-first-left.false, c.if-second-left.true, r.before_end))

pub unreachable-requires-in_default : goal.unreachable-requires-in_default
unreachable-requires-in_default c =
    let m = c.args.self.now in
    let r = c.requires in
    let t = c.args.task in
    branch_has_operand (setting_in t) (task_lists t) (code_in t) m.pool.items m.at m.end m.pieces.0 m.variables.0 m.operands.0 c.args.instr r.goes.0 r.before_end r.place.within r.here r.goes.1 r.goes.2 c.args.first c.args.second r.shape (omega (arith, c.if-first-left.false, c.if-second-left.false, r.before_end)) c.in_default.ensures.items.0

pub returns-in_default-choice : goal.returns-in_default-choice
returns-in_default-choice c =
    let m = c.args.self.now in
    let r = c.requires in
    let t = c.args.task in
    let s = setting_in t in
    let l = task_lists t in
    let code = code_in t in
    let nests : m.at + 1 + c.args.first + c.args.second ≤ m.end = omega (arith, c.if-first-left.false, c.if-second-left.false, r.before_end) in
    let chosen = sym c.choice.ensures ∙ c.in_default-choice.is in
    record {
      made = λ x i n.
          let st = subst (BranchSteps s l code m.pool.items m.at m.end m.pieces.0 m.variables.0 m.operands.0 c.args.instr x r.before_end r.place.within r.here i n c.args.first c.args.second r.shape c.pop.new.self.0) chosen (branch_steps s l code m.pool.items m.at m.end m.pieces.0 m.variables.0 m.operands.0 c.args.instr x r.before_end r.place.within r.here i n c.args.first c.args.second r.shape nests c.in-Some.value c.pop.new.self.0 c.in-Some.ensures.items) in
          (st.next, st.made, is_with s l code m.pool.items _ _ _ _ _ _ _ _ st.next refl refl (c.push.ensures.items ∙ ap (λ o. o ∷ c.pop.new.self.0) c.invalid_slot.ensures) st.stands);
      place = record { order = omega (arith, nests); within = r.place.within; pending = r.place.pending };
      kept = record { started = refl; count = refl; room = record { operands = c.push.ensures.room ∙ c.in-Some.ensures.room; variables = refl; pieces = refl } };
    }

pub returns-then-condition : goal.returns-then-condition
returns-then-condition c =
    let m = c.args.self.now in
    let r = c.requires in
    let t = c.args.task in
    let s = setting_in t in
    let l = task_lists t in
    let code = code_in t in
    let nests : m.at + 1 + c.args.first + c.args.second ≤ m.end = omega (arith, c.if-first-left.false, c.if-second-left.false, r.before_end) in
    let chosen = sym c.choice.ensures ∙ c.in-Some-choice.is ∙ ap Some c.if-condition.true in
    record {
      made = λ x i n.
          let st = subst (BranchSteps s l code m.pool.items m.at m.end m.pieces.0 m.variables.0 m.operands.0 c.args.instr x r.before_end r.place.within r.here i n c.args.first c.args.second r.shape c.pop.new.self.0) chosen (branch_steps s l code m.pool.items m.at m.end m.pieces.0 m.variables.0 m.operands.0 c.args.instr x r.before_end r.place.within r.here i n c.args.first c.args.second r.shape nests c.in-Some.value c.pop.new.self.0 c.in-Some.ensures.items) in
          (st.next, st.made, is_with s l code m.pool.items _ _ _ _ _ _ _ _ st.next c.push-2.ensures.items refl refl st.stands);
      place = record { order = omega arith; within = omega (arith, nests, r.place.within); pending = subst (ArePiecesIn code) (sym c.push-2.ensures.items) ((nests, r.place.within), r.place.pending) };
      kept = record { started = refl; count = refl; room = record { operands = c.in-Some.ensures.room; variables = refl; pieces = c.push-2.ensures.room } };
    }

pub returns-else-condition : goal.returns-else-condition
returns-else-condition c =
    let m = c.args.self.now in
    let r = c.requires in
    let t = c.args.task in
    let s = setting_in t in
    let l = task_lists t in
    let code = code_in t in
    let nests : m.at + 1 + c.args.first + c.args.second ≤ m.end = omega (arith, c.if-first-left.false, c.if-second-left.false, r.before_end) in
    let chosen = sym c.choice.ensures ∙ c.in-Some-choice.is ∙ ap Some c.if-condition.false in
    record {
      made = λ x i n.
          let st = subst (BranchSteps s l code m.pool.items m.at m.end m.pieces.0 m.variables.0 m.operands.0 c.args.instr x r.before_end r.place.within r.here i n c.args.first c.args.second r.shape c.pop.new.self.0) chosen (branch_steps s l code m.pool.items m.at m.end m.pieces.0 m.variables.0 m.operands.0 c.args.instr x r.before_end r.place.within r.here i n c.args.first c.args.second r.shape nests c.in-Some.value c.pop.new.self.0 c.in-Some.ensures.items) in
          (st.next, st.made, is_with s l code m.pool.items _ _ _ _ _ _ _ _ st.next c.push-2.ensures.items refl refl st.stands);
      place = record { order = omega arith; within = omega (arith, nests, r.place.within); pending = subst (ArePiecesIn code) (sym c.push-2.ensures.items) ((nests, r.place.within), r.place.pending) };
      kept = record { started = refl; count = refl; room = record { operands = c.in-Some.ensures.room; variables = refl; pieces = c.push-2.ensures.room } };
    }
