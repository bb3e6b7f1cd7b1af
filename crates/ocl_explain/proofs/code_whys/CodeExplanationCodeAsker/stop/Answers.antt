use Rattle.std.proofs.Common.{false}
use Rattle.ocl_check.specs.Given.{given_answer}
use Rattle.ocl_check.proofs.ForAbove.{due}
use Rattle.ocl_explain.specs.CodeWhy.{code_why_of}
use Rattle.ocl_explain.proofs.code_whys.CodeExplanationCodeAsker.stop.Goals as goal

pub returns : goal.returns
returns g c = λ given fails.
    let asked = c.args.self.now.asked in
    let f = code_why_of asked.rule.now asked.id.now asked.lines in
    c.stop.ensures false (given_answer f given) (due c.args.why given f fails)
