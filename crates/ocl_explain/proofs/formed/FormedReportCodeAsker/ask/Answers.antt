use Rattle.std.proofs.Common.{rules, tests, []}
use Rattle.ocl_explain.specs.FormedReport.{code_detailed_within}
use Rattle.ocl_explain.proofs.formed.FormedReportCodeAsker.ask.Goals as goal

pub returns-in-Ok : goal.returns-in-Ok
returns-in-Ok g c =
    let report = c.args.self.now.report in
    let told = code_detailed_within report.budget report.detail (c.args.population.now.content, c.args.accepted.now.unit) in
    (_, c.write_judged.ensures told (let judged = c.of_code-text.ensures in search rules))

pub returns : goal.returns
returns g c = ([], search (rules, tests))
