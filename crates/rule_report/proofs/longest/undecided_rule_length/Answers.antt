use Rattle.std.proofs.Common.{◌≡◌, ◌∙◌, Some, length, sym, ap, arith}
use Rattle.rule_verify.specs.UnitRules.{context_class, unit_rule}
use Rattle.rule_report.specs.Report.{instances_of, context_objects, rule_line_of}
use Rattle.rule_report.proofs.Counts.{few_instances}
use Rattle.rule_report.proofs.Lengths.{undecided_rule_is}
use Rattle.rule_report.proofs.longest.undecided_rule_length.Goals as goal

pub undecided_lines_length-requires-clause-few : goal.undecided_lines_length-requires-clause-few
undecided_lines_length-requires-clause-few c =
    omega (arith, few_instances c.args.population.now.content (Some c.context.result) c.consistent.ensures, ap length c.instances-objects.ensures.objects)

pub returns-clause-length : goal.returns-clause-length
returns-clause-length c =
    let u = c.args.accepted.now.unit in
    let p = c.args.population.now.content in
    let r = c.args.rule in
    let os = c.instances-objects.result.now in
    let name = c.rule_name-name.result.now in
    let context = ap (λ m. context_class m u (unit_rule u r)) c.requires.one_model ∙ c.context.ensures.class in
    let objects : context_objects u p r ≡ os = ap (instances_of p) context ∙ sym c.instances-objects.ensures.objects in
    undecided_rule_is u p r name os c.undecided_lines_length.result c.rule_line_length.result c.rule_name-name.ensures objects c.undecided_lines_length.ensures.length
    (c.rule_line_length.ensures.length ∙ ap (λ s. length (rule_line_of name (length os) s)) c.all_undecided.ensures)
