use Rattle.ocl_check.proofs.Endings.{ending_as}
use Rattle.ocl_check.proofs.Given.{replies_within}
use Rattle.ocl_check.proofs.commands.desk.RepliesCodeAsker.ask.Goals as goal

pub returns : goal.returns
returns g c = ending_as (replies_within c.args.population.now.content c.args.accepted.now.unit c.args.self.now.script.now) c.ask_admitted.ensures
