use Rattle.std.proofs.Common.{◌≡◌, ◌<◌, false, length, sym, ap, ◌∙◌, subst, arith}
use Rattle.rule_cost.specs.Admission.{is_affordable}
use Rattle.rule_cost.proofs.Affordable.{AllAffordable, all_admitted, first_refused, steps_above, no_steps}
use Rattle.rule_cost.proofs.admission.admit.Goals.{in_default-via-in-Steps+else-charges-budget, in_default-via-in_default}
use Rattle.rule_cost.proofs.admission.admit.Goals as goal

-- src/admission.rt:38:18
pub returns-in_default-clause-admitted : goal.returns-in_default-clause-admitted
returns-in_default-clause-admitted c =
    let u = c.args.accepted.now.unit in
    let z = c.args.sizes.now in
    let below : c.loop-rule.rule < length u.rules = omega (arith, c.loop-rule-test.true, c.rules-rule-end.ensures) in
    let over : is_affordable c.args.budget c.in_ok-charges.field-0 ≡ false = elim c.in_default.branch [
      | in_default-via-in-Steps+else-charges-budget w ↦ steps_above c.args.budget w.in-Steps.charges c.in_ok-charges.field-0 w.in-Steps.is w.if-charges-budget.false
      | in_default-via-in_default w ↦ no_steps c.args.budget c.in_ok-charges.field-0 w.in_default.not-Steps
    ] in
    first_refused u z c.args.budget c.loop-rule.rule below c.loop-rule.invariant.1 (ap (is_affordable c.args.budget) (sym c.in_ok-charges.ensures.bound) ∙ over)

-- src/admission.rt:21:1
pub returns-clause-admitted : goal.returns-clause-admitted
returns-clause-admitted c =
    let u = c.args.accepted.now.unit in
    let whole : c.loop-rule.rule ≡ length u.rules = omega (arith, c.loop-rule-test.false, c.loop-rule.auto.rule-end, c.rules-rule-end.ensures) in
    all_admitted u c.args.sizes.now c.args.budget (subst (AllAffordable u c.args.sizes.now c.args.budget) whole c.loop-rule.invariant.1)
