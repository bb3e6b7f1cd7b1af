use Rattle.std.proofs.Common.{◌≡◌, ◌<◌, Option, Some, None, sym, subst, length, ◌∙◌, ap, ℕ}
use Rattle.rule_code.specs.Content.{rule_content}
use Rattle.rule_code.specs.View.{content}
use Rattle.rule_verify.specs.Resolved.{ResolvedUnit}
use Rattle.rule_verify.specs.UnitRules.{context_class, unit_rule}
use Rattle.rule_verify.proofs.CheckedRules.{rule_is, has_context}
use Rattle.rule_verify.proofs.accepted.Accepted.context.Goals as goal

pub unreachable-requires : goal.unreachable-requires
unreachable-requires c =
    let l = c.self.inside.resolved in
    let within = subst (λ (v : ResolvedUnit). c.args.rule < length v.unit.rules) (sym c.self.view_is) c.requires in
    let there = has_context l.model l.unit c.self.invariant.0 c.args.rule within in
    let is = rule_is l.unit (content c.unit.result.now) c.args.rule (rule_content c.rule-rule.result.now) c.unit.ensures c.rule-rule.ensures.rule in
    let none : context_class l.model l.unit (unit_rule l.unit c.args.rule) ≡ None = ap (context_class l.model l.unit) is ∙ sym c.class.ensures.class ∙ c.in-None.is in
    differ (sym none ∙ there.1)
  where
    differ : {x : ℕ} → ◌≡◌ {A = Option ℕ} None (Some x) → ⊥
    differ e = cc

pub returns-clause-class : goal.returns-clause-class
returns-clause-class c =
    let l = c.self.inside.resolved in
    let is = rule_is l.unit (content c.unit.result.now) c.args.rule (rule_content c.rule-rule.result.now) c.unit.ensures c.rule-rule.ensures.rule in
    subst (λ (v : ResolvedUnit). context_class v.model v.unit (unit_rule v.unit c.args.rule) ≡ Some c.in-Some.class) c.self.view_is
    (ap (context_class l.model l.unit) is ∙ sym c.class.ensures.class ∙ c.in-Some.is)
