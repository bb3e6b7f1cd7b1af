use Rattle.ocl_check.proofs.Sources.{is_read_by, passed_on, read_next}
use Rattle.ocl_check.proofs.three_inputs.read_inputs.Goals as goal

pub returns-in_err-rules-clause-read : goal.returns-in_err-rules-clause-read
returns-in_err-rules-clause-read g c =
    let e = c.in_err-rules.ensures in
    passed_on _ c.from_residual-in_err-rules.result _ c.from_residual-in_err-rules.ensures.1 (read_next _ _ _ _ c.in_ok-model.ensures.read c.in_ok-model.ensures.end (is_read_by _ _ e.consumed e.reads e.read_fault e.within e.failed))
