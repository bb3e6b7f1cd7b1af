use Rattle.std.proofs.Common.{false}
use Rattle.rule_cost.specs.Admission.{Admission}
use Rattle.desk_script.specs.Script.{script_of}
use Rattle.ocl_check.specs.Desk.{script_answer}
use Rattle.ocl_check.specs.Given.{given_answer}
use Rattle.ocl_check.proofs.Given.{due}
use Rattle.ocl_check.proofs.commands.desk.RepliesAdmittedAsker.stop.Goals as goal

pub returns : goal.returns
returns g c = λ p given fails.
    let f = λ (a : Admission). script_answer a p (script_of c.args.self.now.script.now) in
    c.stop.ensures false (given_answer f given) (due c.args.why given f fails)
