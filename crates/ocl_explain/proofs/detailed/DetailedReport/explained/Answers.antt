use Rattle.std.proofs.Common.{rules}
use Rattle.ocl_explain.proofs.detailed.DetailedReport.explained.Goals as goal

pub returns : goal.returns
returns g c = λ t compiled are typed same.
    let h = c.ask-outcome.ensures t compiled are typed same in
    let text = c.into_inner-text.ensures in
    let told = h.2.answered in (h.0, h.1, search rules)
