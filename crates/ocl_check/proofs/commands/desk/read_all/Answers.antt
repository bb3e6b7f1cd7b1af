use Rattle.std.proofs.Common.{refl}
use Rattle.ocl_check.proofs.Sources.{is_read_by, passed_on, read_next, read_no_more}
use Rattle.ocl_check.proofs.commands.desk.read_all.Goals as goal

pub returns-in_err-inputs-clause-read : goal.returns-in_err-inputs-clause-read
returns-in_err-inputs-clause-read g c =
    passed_on _ c.from_residual.result _ c.from_residual.ensures.1 (read_no_more _ _ _ _ c.in_err-inputs.ensures.read refl c.requires.script.0 c.requires.script.1 refl)

pub returns-in_err-script-clause-read : goal.returns-in_err-script-clause-read
returns-in_err-script-clause-read g c =
    let e = c.in_err-script.ensures in
    passed_on _ c.from_residual-in_err-script.result _ c.from_residual-in_err-script.ensures.1 (read_next _ _ _ _ c.in_ok-inputs.ensures.read c.in_ok-inputs.ensures.end (is_read_by _ _ e.consumed e.reads e.read_fault e.within e.failed))
