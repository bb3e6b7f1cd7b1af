use Rattle.std.proofs.Common.{rules}
use Rattle.ocl_check.specs.Judge.{budget_answer}
use Rattle.ocl_check.specs.Given.{pair_answer}
use Rattle.ocl_explain.proofs.findings.ExplainedReportCodeAsker.ask.Goals as goal

pub returns : goal.returns
returns g c =
    let said = pair_answer (budget_answer c.args.self.now.budget) (c.args.population.now.content, c.args.accepted.now.unit) in
    let h = c.ask-judged.ensures in
    let text = c.into_inner-text.ensures in
    c.write_judged.ensures said (let judged = h.answered in search rules)
