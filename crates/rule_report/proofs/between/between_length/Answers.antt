use Rattle.std.proofs.Common.{◌∙◌, length, ap, arith}
use Rattle.rule_report.proofs.Pairs.{line_same, lengths_more}
use Rattle.rule_report.proofs.between.between_length.Goals as goal

pub loop-rule-preserved : goal.loop-rule-preserved
loop-rule-preserved c =
    let u = c.args.accepted.now.unit in
    let r = c.loop-rule.rule in
    record {
      so = lengths_more u c.args.from r c.loop-rule.length c.rule_line_length-length.result (omega (arith, c.loop-rule.auto.rule)) c.loop-rule.invariant.so
          (c.rule_line_length-length.ensures.length ∙ ap length (line_same u r c.rule_name.result.now c.empty.result c.rule_name.ensures c.empty.ensures));
      short = omega (arith, c.loop-rule.invariant.short, c.rule_line_length-length.ensures.short, c.loop-rule.auto.rule);
    }
