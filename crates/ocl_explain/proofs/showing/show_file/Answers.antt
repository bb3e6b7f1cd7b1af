use Rattle.std.proofs.Common.{true, sym, subst}
use Rattle.ocl_base.specs.Steps.{Fails}
use Rattle.ocl_pipeline.specs.declared.stopped.Stopped.{Stopped}
use Rattle.ocl_pipeline.specs.Steps.{unit_in}
use Rattle.ocl_pipeline.specs.Stops.{stopped}
use Rattle.ocl_check.specs.Given.{given_answer}
use Rattle.ocl_check.proofs.ForAbove.{due}
use Rattle.ocl_explain.proofs.ShownRules.{marked_unit, code_marked}
use Rattle.ocl_explain.proofs.showing.show_file.Goals as goal

pub returns-in-Err : goal.returns-in-Err
returns-in-Err g c =
    let m = c.args.model.now in
    let given = unit_in m c.args.code.now in
    let a = given_answer (marked_unit m) given in
    let why = c.into_parts-place.result.1 in
    let fails = subst (λ (w : Stopped). Fails stopped w given) (sym c.into_parts-place.ensures) c.in-Err.ensures.refused in
    (a, code_marked c.args.code.now m, c.stop.ensures true a (due why given (marked_unit m) fails))
