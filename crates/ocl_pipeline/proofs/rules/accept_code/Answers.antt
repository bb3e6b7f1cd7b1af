use Rattle.std.proofs.Common.{◌≡◌, Result, Ok, IfOk, IfErr, sym, subst}
use Rattle.ocl_base.specs.Steps.{Fails}
use Rattle.rule_code.specs.Content.{Content}
use Rattle.rule_code.specs.View.{content}
use Rattle.ocl_pipeline.specs.declared.refusal.Refusal.{Refusal}
use Rattle.ocl_pipeline.specs.declared.stopped.Stopped.{Stopped}
use Rattle.ocl_pipeline.specs.Stops.{stopped}
use Rattle.ocl_pipeline.specs.Steps.{unit_in}
use Rattle.ocl_pipeline.proofs.Stopping.{code_read, code_stops}
use Rattle.ocl_pipeline.proofs.rules.accept_code.Goals as goal

pub returns-in-Ok-clause-unit : goal.returns-in-Ok-clause-unit
returns-in-Ok-clause-unit c =
    subst (λ (x : Result Content Refusal). IfOk c.accept.result (λ a. x ≡ Ok a.unit))
    (sym (code_read c.args.model.now c.args.code.now (content c.in-Ok.unit) c.in-Ok.ensures.exact)) c.accept.ensures.accepted

pub returns-in-Ok-clause-refused : goal.returns-in-Ok-clause-refused
returns-in-Ok-clause-refused c =
    subst (λ (x : Result Content Refusal). IfErr c.accept.result (λ r. Fails stopped r.why x))
    (sym (code_read c.args.model.now c.args.code.now (content c.in-Ok.unit) c.in-Ok.ensures.exact)) c.accept.ensures.refused

pub returns-in-Err-clause-refused : goal.returns-in-Err-clause-refused
returns-in-Err-clause-refused c =
    subst (λ (s : Stopped). Fails stopped s (unit_in c.args.model.now c.args.code.now)) (sym c.without_unit.ensures) (code_stops c.args.model.now c.args.code.now c.in-Err.fault c.from.result c.from.ensures c.in-Err.ensures.exact)
