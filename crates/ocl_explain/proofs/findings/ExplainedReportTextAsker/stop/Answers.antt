use Rattle.std.proofs.Common.{true, option_map}
use Rattle.ocl_check.specs.Given.{given_answer}
use Rattle.ocl_check.proofs.ForAbove.{due}
use Rattle.ocl_explain.specs.Explained.{explained_within}
use Rattle.ocl_explain.proofs.findings.ExplainedReportTextAsker.stop.Goals as goal

pub returns : goal.returns
returns g c = λ given fails.
    let h = c.each_text_is_read.ensures c.args.self.now.rules.now in
    let f = explained_within h.0 c.args.self.now.budget c.args.self.now.shown (option_map (λ r. r.now) c.args.self.now.rule) in
    (h.0, h.1, c.stop.ensures true (given_answer f given) (due c.args.why given f fails))
