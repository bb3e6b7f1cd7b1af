use Rattle.std.proofs.Common.{false}
use Rattle.rule_cost.specs.Admission.{Admission}
use Rattle.ocl_check.specs.Judge.{report_answer}
use Rattle.ocl_check.specs.Given.{given_answer}
use Rattle.ocl_check.proofs.Given.{due}
use Rattle.ocl_check.proofs.commands.judge.ReportAdmittedAsker.stop.Goals as goal

pub returns : goal.returns
returns g c = λ p given fails.
    let f = λ (a : Admission). report_answer p a.resolved.unit in
    c.stop.ensures false (given_answer f given) (due c.args.why given f fails)
