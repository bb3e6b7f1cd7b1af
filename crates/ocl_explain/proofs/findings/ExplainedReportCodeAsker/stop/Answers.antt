use Rattle.std.proofs.Common.{true, option_map}
use Rattle.ocl_check.specs.Given.{given_answer}
use Rattle.ocl_check.proofs.ForAbove.{due}
use Rattle.ocl_explain.specs.Explained.{code_explained_within}
use Rattle.ocl_explain.proofs.findings.ExplainedReportCodeAsker.stop.Goals as goal

pub returns : goal.returns
returns g c = λ given fails.
    let f = code_explained_within c.args.self.now.budget c.args.self.now.shown (option_map (λ r. r.now) c.args.self.now.rule) in
    c.stop.ensures true (given_answer f given) (due c.args.why given f fails)
