use Rattle.std.proofs.Common.{◌∙◌, ap, sym, subst}
use Rattle.ocl_base.specs.Steps.{Fails}
use Rattle.rule_code.specs.CodeFile.{unit_of}
use Rattle.ocl_pipeline.specs.declared.stopped.Stopped.{Stopped}
use Rattle.ocl_pipeline.specs.Stops.{stopped}
use Rattle.ocl_pipeline.specs.Steps.{unit_in}
use Rattle.ocl_check.specs.Reply.{accepted_reply}
use Rattle.ocl_check.specs.Verify.{verify_code_answer}
use Rattle.ocl_check.specs.Given.{given_answer, IsDueFor}
use Rattle.ocl_check.proofs.Said.{said_as}
use Rattle.ocl_check.proofs.Given.{accepted_answer, code_is_verified, due, said_due}
use Rattle.ocl_check.proofs.commands.verify.verify_code.Goals as goal

pub returns-in-Ok : goal.returns-in-Ok
returns-in-Ok g c =
    let m = c.args.model.now in
    let code = c.args.code.now in
    said_as c.accepted_reply.result (accepted_reply c.rules.result) (verify_code_answer m (unit_of code))
    (ap accepted_reply c.rules.ensures ∙ sym (ap (given_answer accepted_answer) c.in-Ok.ensures.unit) ∙ code_is_verified m code) c.accepted_reply.ensures

pub returns-in-Err : goal.returns-in-Err
returns-in-Err g c =
    let m = c.args.model.now in
    let code = c.args.code.now in
    let why = c.into_parts-place.result.1 in
    let fails = subst (λ (s : Stopped). Fails stopped s (unit_in m code)) (sym c.into_parts-place.ensures) c.in-Err.ensures.refused in
    said_due c.refusal_reply.result why (verify_code_answer m (unit_of code)) c.refusal_reply.ensures
    (subst (IsDueFor why) (code_is_verified m code) (due why (unit_in m code) accepted_answer fails))
