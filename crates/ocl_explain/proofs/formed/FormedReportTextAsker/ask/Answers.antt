use Rattle.std.proofs.Common.{rules, tests, []}
use Rattle.ocl_explain.specs.FormedReport.{detailed_within}
use Rattle.ocl_explain.proofs.formed.FormedReportTextAsker.ask.Goals as goal

pub returns-in-Ok : goal.returns-in-Ok
returns-in-Ok g c = λ t compiled are typed same.
    let report = c.args.self.now.report in
    let h = c.of_rules-text.ensures t compiled are typed same in
    let judged = h.2 in
    let told = detailed_within h.0 report.budget report.detail (c.args.population.now.content, compiled) in
    let written = c.write_with_messages.ensures told (search rules) in
    (written.0, _, h.0, h.1, written.1)

pub returns : goal.returns
returns g c = λ t compiled are typed same.
    let h = c.of_rules-text.ensures t compiled are typed same in
    ([], [], h.0, h.1, search (rules, tests))
