use Rattle.std.proofs.Common.{rules}
use Rattle.ocl_explain.proofs.detailed.DetailedReport.of_rules.Goals as goal

pub returns-in-Verdict : goal.returns-in-Verdict
returns-in-Verdict g c = λ t compiled are typed same.
    let w = c.each_text_is_read.ensures c.args.self.now.rules.now in
    let told = c.report.ensures t compiled are typed same in (w.0, w.1, search rules)

pub returns-in-Why : goal.returns-in-Why
returns-in-Why g c = λ t compiled are typed same.
    let h = c.explained.ensures t compiled are typed same in
    let told = h.2 in (h.0, h.1, search rules)
