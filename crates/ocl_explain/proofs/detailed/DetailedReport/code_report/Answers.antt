use Rattle.std.proofs.Common.{rules}
use Rattle.ocl_explain.proofs.detailed.DetailedReport.code_report.Goals as goal

pub returns : goal.returns
returns g c =
    let h = c.ask-outcome.ensures in
    let text = c.into_inner-text.ensures in
    let told = h.answered in search rules
