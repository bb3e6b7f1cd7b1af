use Rattle.std.proofs.lemmas.Result.{err_from_is_err_and}
use Rattle.ocl_base.specs.Steps.{each}
use Rattle.imkl_model.specs.Numbering.{number_in}
use Rattle.ocl_base.proofs.ForAbove.{goes_on_plain, is_done_plain, ends_plain}
use Rattle.imkl_model.specs.Faults.{model_fault}
use Rattle.imkl_model.proofs.numbering.supers_of.Goals as goal

pub returns-in_err-class_in : goal.returns-in_err-class_in
returns-in_err-class_in c =
    let p = err_from_is_err_and c.from_residual.result c.from_residual.ensures.1 in
    let f = (number_in c.args.scope.now.classes) in
    let xs = c.args.supers.now in
    rw (p.1, p.2) (ends_plain model_fault f c.in_err-class_in.field-0.0 c.loop-name.found.items xs c.loop-name.name-index c.name-item.result (each f xs) c.loop-name-test.true c.name-item.is c.in_err-class_in.ensures c.loop-name.invariant)

pub loop-name-preserved : goal.loop-name-preserved
loop-name-preserved c =
    let f = (number_in c.args.scope.now.classes) in
    let xs = c.args.supers.now in
    rw c.in_ok-push.ensures.items (goes_on_plain f c.loop-name.found.items xs c.loop-name.name-index c.name-item.result c.in_ok-class_in.field-0 (each f xs) c.loop-name-test.true c.name-item.is c.in_ok-class_in.ensures c.loop-name.invariant)

pub returns : goal.returns
returns c =
    let f = (number_in c.args.scope.now.classes) in
    is_done_plain f c.loop-name.found.items c.args.supers.now c.loop-name.name-index (each f c.args.supers.now) c.loop-name-test.false c.loop-name.invariant
