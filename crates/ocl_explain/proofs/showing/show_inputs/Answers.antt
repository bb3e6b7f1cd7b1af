use Rattle.std.proofs.Common.{true}
use Rattle.ocl_pipeline.specs.Steps.{model_in}
use Rattle.ocl_check.specs.Given.{given_answer}
use Rattle.ocl_check.proofs.ForAbove.{due}
use Rattle.ocl_explain.specs.ShownCode.{IsShownCode}
use Rattle.ocl_explain.proofs.ShownRules.{marked_code, code_marked, given_shown}
use Rattle.ocl_explain.proofs.showing.show_inputs.Goals as goal

pub returns-in-Err : goal.returns-in-Err
returns-in-Err g c =
    let f = marked_code c.args.code.now in
    let given = model_in c.args.model.now in
    let a = given_answer f given in
    (a, given_shown (IsShownCode c.args.code.now) f (code_marked c.args.code.now) given, c.stop.ensures true a (due c.in-Err.why given f c.in-Err.ensures))
