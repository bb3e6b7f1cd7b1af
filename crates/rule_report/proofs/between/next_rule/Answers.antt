use Rattle.std.proofs.Common.{◌≡◌, ◌<◌, ◌-◌, ◌∙◌, length, sym, ap, arith}
use Rattle.rule_verify.specs.UnitRules.{context_class, unit_rule}
use Rattle.rule_report.specs.Report.{instances_of, context_objects}
use Rattle.rule_report.proofs.Pairs.{next_on, next_stops, next_ends}
use Rattle.rule_report.proofs.between.next_rule.Goals as goal

pub loop-rule-preserved : goal.loop-rule-preserved
loop-rule-preserved c =
    let u = c.args.accepted.now.unit in
    let p = c.args.population.now.content in
    let r = c.loop-rule.rule in
    let i = c.loop-rule.invariant in
    let context = ap (λ m. context_class m u (unit_rule u r)) c.requires.one_model ∙ c.context.ensures.class in
    let objects : context_objects u p r ≡ c.instances-objects.result.now = ap (instances_of p) context ∙ sym c.instances-objects.ensures.objects in
    let empty : length (context_objects u p r) ≡ 0 = omega (arith, ap length objects) in
    record {
      above = omega (arith, i.above);
      within = omega (arith, i.within, c.rules-rules.ensures);
      next = sym (next_on u p (length u.rules) r (omega (arith, c.rules-rules.ensures)) empty) ∙ i.next;
    }

pub returns-then-objects-gt0 : goal.returns-then-objects-gt0
returns-then-objects-gt0 c =
    let u = c.args.accepted.now.unit in
    let p = c.args.population.now.content in
    let r = c.loop-rule.rule in
    let context = ap (λ m. context_class m u (unit_rule u r)) c.requires.one_model ∙ c.context.ensures.class in
    let objects : context_objects u p r ≡ c.instances-objects.result.now = ap (instances_of p) context ∙ sym c.instances-objects.ensures.objects in
    let there : 0 < length (context_objects u p r) = omega (arith, ap length objects) in
    sym (next_stops u p (length u.rules - r) r there) ∙ c.loop-rule.invariant.next

pub returns : goal.returns
returns c =
    let u = c.args.accepted.now.unit in
    let p = c.args.population.now.content in
    sym (next_ends u p (length u.rules) c.loop-rule.rule (omega (arith, c.rules-rules.ensures))) ∙ c.loop-rule.invariant.next
