use Rattle.std.proofs.Common.{◌≡◌, ◌∙◌, Some, length, sym, ap, arith}
use Rattle.rule_verify.specs.UnitRules.{context_class, unit_rule}
use Rattle.rule_report.specs.Report.{instances_of, context_objects, total_line}
use Rattle.rule_report.proofs.Counts.{few_instances}
use Rattle.rule_report.proofs.Lengths.{undecided_more, pairs_more, longest_is}
use Rattle.rule_report.proofs.longest.longest_length.Goals as goal

pub loop-rule-preserved : goal.loop-rule-preserved
loop-rule-preserved c =
    let u = c.args.accepted.now.unit in
    let p = c.args.population.now.content in
    let r = c.loop-rule.rule in
    let i = c.loop-rule.invariant in
    let os = c.instances.result.now in
    let context = ap (λ m. context_class m u (unit_rule u r)) c.requires.one_model ∙ c.context.ensures.class in
    let objects : context_objects u p r ≡ os = ap (instances_of p) context ∙ sym c.instances.ensures.objects in
    record {
      so = undecided_more u p r c.loop-rule.length c.undecided_rule_length-length.result i.so c.undecided_rule_length-length.ensures.length;
      short = omega (arith, i.short, c.undecided_rule_length-length.ensures.short);
      pairs = omega (arith, i.pairs, pairs_more u p r os objects);
      few = omega (arith, i.few, few_instances p (Some c.context.result) c.consistent.ensures, ap length c.instances.ensures.objects);
    }

pub returns : goal.returns
returns c =
    let u = c.args.accepted.now.unit in
    let p = c.args.population.now.content in
    let r = c.loop-rule.rule in
    longest_is u p r c.loop-rule.length c.loop-rule.pairs c.total_line_length.result (omega (arith, c.loop-rule-test.false, c.loop-rule.auto.rule-end, c.rules-rule-end.ensures)) c.loop-rule.invariant.so c.loop-rule.invariant.pairs
    (c.total_line_length.ensures.length ∙ ap (λ s. length (total_line s)) c.all_undecided.ensures)
