use Rattle.std.proofs.lemmas.Result.{IfOk-weaker}
use Rattle.ocl_explain.proofs.Confirmed.{has_verdict}
use Rattle.ocl_explain.proofs.exampling.told_verdict.Goals as goal

pub returns : goal.returns
returns c =
    let h = c.ask_inputs.ensures in
    IfOk-weaker c.ask_inputs.result _ _ (λ v told. has_verdict c.args.model.now c.args.delivery.now c.args.rules.now h.0 h.1 c.args.rule.now c.args.id.now v told) h.2
