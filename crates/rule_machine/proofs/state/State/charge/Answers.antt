use Rattle.std.proofs.Common.{◌≡◌, ◌^◌, ◌-◌, arith, get_or, sym, ap, ◌∙◌, subst, ⊎_elim}
use Rattle.std.specs.Prelude.{min}
use Rattle.rule_code.specs.declared.instruction.Instr.TheVariants as instrs
use Rattle.rule_machine.specs.StandFor.{IsAt}
use Rattle.rule_machine.specs.Shown.{code_in, setting_in, task_lists, slot_lengths, IsFirstMark}
use Rattle.rule_machine.proofs.NextCharge.{instr_charge, mark_charged}
use Rattle.rule_machine.proofs.InstrSteps.{instr_here}
use Rattle.rule_machine.proofs.state.State.charge.Goals as goal

pub returns-then-not-may_cost_more : goal.returns-then-not-may_cost_more
returns-then-not-may_cost_more c =
    let t = c.args.task in
    let m = c.args.self.now in
    let lt = c.if-self.true in
    let le = c.requires.place.within in
    λ x i n.
    let charge = instr_charge (setting_in t) (task_lists t) (code_in t) m.pool.items m.at m.end m.pieces.0 m.variables.0 m.operands.0 (get_or c.code.result.now m.at instrs.SelfObject) x lt le (instr_here t m.at m.end c.code.result.now lt le c.code.ensures.code) i n in
    omega (arith, charge, c.may_cost_more.ensures c.if-not-may_cost_more.true (slot_lengths m.operands.0))

pub returns-then-self : goal.returns-then-self
returns-then-self c =
    let t = c.args.task in
    let m = c.args.self.now in
    let lt = c.if-self.true in
    let le = c.requires.place.within in
    λ x i n.
    let charge = instr_charge (setting_in t) (task_lists t) (code_in t) m.pool.items m.at m.end m.pieces.0 m.variables.0 m.operands.0 (get_or c.code.result.now m.at instrs.SelfObject) x lt le (instr_here t m.at m.end c.code.result.now lt le c.code.ensures.code) i n in
    omega (arith, charge, c.extra_charge.ensures, c.saturating_add.ensures)

pub returns : goal.returns
returns c =
    let t = c.args.task in
    let m = c.args.self.now in
    let at_end : m.at ≡ m.end = omega (arith, c.if-self.false, c.requires.place.order) in
    let first : IsFirstMark m.pieces.0 = ⊎_elim (λ lt. absurd (omega (arith, lt, at_end))) (λ k. k) c.requires.front in
    let is = c.in-Some.ensures in
    λ x i n.
    let j = subst (λ k. IsAt (setting_in t) (task_lists t) (code_in t) m.pool.items m.at m.end k m.variables.0 m.operands.0 x) is.1 i in
    c.mark_charge.ensures ∙ ap (λ k. min k (2 ^ 128 - 1)) (sym (mark_charged (setting_in t) (task_lists t) (code_in t) m.pool.items m.at m.end c.in-Some.mark.now is.0 m.variables.0 m.operands.0 x at_end (subst IsFirstMark is.1 first) j n))
