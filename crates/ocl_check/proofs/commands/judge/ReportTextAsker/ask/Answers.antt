use Rattle.std.proofs.Common.{sym, ap, ◌∙◌}
use Rattle.ocl_check.specs.Judge.{budget_answer}
use Rattle.ocl_check.proofs.Endings.{ending_as}
use Rattle.ocl_check.proofs.Given.{report_within}
use Rattle.ocl_check.proofs.TextReports.{meant_report_is}
use Rattle.ocl_check.proofs.commands.judge.ReportTextAsker.ask.Goals as goal

pub returns : goal.returns
returns g c = λ t rules compiled typed same.
    let p = c.args.population.now.content in
    let budget = c.args.self.now.budget in
    ending_as (report_within p c.args.accepted.now.unit budget ∙ ap (budget_answer budget p) (sym same) ∙ meant_report_is budget p t rules compiled) c.ask_admitted.ensures
