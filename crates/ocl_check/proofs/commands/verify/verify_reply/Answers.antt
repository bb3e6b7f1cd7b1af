use Rattle.std.proofs.Common.{◌∙◌, ap, sym, subst}
use Rattle.ocl_pipeline.specs.Steps.{model_in}
use Rattle.ocl_check.specs.Verify.{verify_answer}
use Rattle.ocl_check.specs.Given.{given_answer, IsDueFor}
use Rattle.ocl_check.proofs.Said.{said_as}
use Rattle.ocl_check.proofs.Given.{verified_for, model_is_verified, due, said_due}
use Rattle.ocl_check.proofs.commands.verify.verify_reply.Goals as goal

pub returns-in-Ok : goal.returns-in-Ok
returns-in-Ok g c =
    let model = c.args.model.now in
    let code = c.args.code.now in
    said_as c.verify_code.result (verified_for code c.in-Ok.model) (verify_answer model code)
    (sym (ap (given_answer (verified_for code)) c.in-Ok.ensures) ∙ model_is_verified model code) c.verify_code.ensures

pub returns-in-Err : goal.returns-in-Err
returns-in-Err g c =
    let model = c.args.model.now in
    let code = c.args.code.now in
    let why = c.in-Err.why in
    said_due c.refusal_reply.result why (verify_answer model code) c.refusal_reply.ensures
    (subst (IsDueFor why) (model_is_verified model code) (due why (model_in model) (verified_for code) c.in-Err.ensures))
