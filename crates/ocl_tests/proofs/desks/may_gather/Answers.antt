use Rattle.std.proofs.Common.{◌≡◌, ◌≤◌, ◌∙◌, false, sym, ap, inl, inr, arith}
use Rattle.std.proofs.Math.Nat.{eq-or-lt_of_le}
use Rattle.rule_verify.specs.UnitRules.{unit_rule, takes_memory}
use Rattle.ocl_tests.proofs.desks.may_gather.Goals as goal

pub loop-rule-preserved : goal.loop-rule-preserved
loop-rule-preserved c = λ r h.
    let u = c.args.accepted.now.unit in
    let here : takes_memory (unit_rule u c.loop-rule.rule) ≡ false = sym c.takes_memory.ensures ∙ c.if-takes_memory.false in
    let below : r ≤ c.loop-rule.rule = omega (arith, h) in
    elim (eq-or-lt_of_le below) [
      | inl e ↦ ap (λ n. takes_memory (unit_rule u n)) e ∙ here
      | inr l ↦ c.loop-rule.invariant r (omega (arith, l))
    ]

pub returns : goal.returns
returns c = λ none r h. c.loop-rule.invariant r (omega (arith, h, c.loop-rule-test.false, c.loop-rule.auto.rule-end, c.rules-rule-end.ensures))
