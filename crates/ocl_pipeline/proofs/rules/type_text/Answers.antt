use Rattle.std.proofs.Common.{sym, subst}
use Rattle.ocl_base.specs.Steps.{Fails}
use Rattle.ocl_pipeline.specs.declared.stopped.Stopped.{Stopped}
use Rattle.ocl_pipeline.specs.Stops.{stopped}
use Rattle.ocl_pipeline.specs.Steps.{text_in}
use Rattle.ocl_pipeline.proofs.TextCompiled.{flawed_text}
use Rattle.ocl_pipeline.proofs.rules.type_text.Goals as goal

pub returns-in-Err-clause-read : goal.returns-in-Err-clause-read
returns-in-Err-clause-read c =
    let m = c.args.model.now in
    let f = flawed_text m c.args.bytes.now c.in-Err.fault (c.each_text_is_read.ensures c.args.bytes.now) c.in-Err.ensures.fault in
    (f.0, f.1, tt, subst (λ (e : Stopped). Fails stopped e (text_in m f.0)) (sym c.from.ensures) f.2)
