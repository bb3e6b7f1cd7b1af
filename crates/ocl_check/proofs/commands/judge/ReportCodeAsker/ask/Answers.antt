use Rattle.ocl_check.proofs.Endings.{ending_as}
use Rattle.ocl_check.proofs.Given.{report_within}
use Rattle.ocl_check.proofs.commands.judge.ReportCodeAsker.ask.Goals as goal

pub returns : goal.returns
returns g c = ending_as (report_within c.args.population.now.content c.args.accepted.now.unit c.args.self.now.budget) c.ask_admitted.ensures
