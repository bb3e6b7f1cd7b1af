use Rattle.std.proofs.lemmas.Result.{err_from_is_err_and}
use Rattle.ocl_base.specs.Steps.{each}
use Rattle.imkl_model.specs.Numbering.{class_in_scope}
use Rattle.ocl_base.proofs.ForAbove.{goes_on_plain, is_done_plain, ends_plain}
use Rattle.imkl_model.specs.Faults.{model_fault}
use Rattle.imkl_model.proofs.numbering.classes_of.Goals as goal

pub returns-in_err-class_of : goal.returns-in_err-class_of
returns-in_err-class_of c =
    let p = err_from_is_err_and c.from_residual.result c.from_residual.ensures.1 in
    let f = (class_in_scope c.args.scope.now) in
    let xs = c.args.classes.now in
    rw (p.1, p.2) (ends_plain model_fault f c.in_err-class_of.field-0.0 c.loop-class.found.items xs c.loop-class.class-index c.class-item.result (each f xs) c.loop-class-test.true c.class-item.is c.in_err-class_of.ensures c.loop-class.invariant)

pub loop-class-preserved : goal.loop-class-preserved
loop-class-preserved c =
    let f = (class_in_scope c.args.scope.now) in
    let xs = c.args.classes.now in
    rw c.in_ok-push.ensures.items (goes_on_plain f c.loop-class.found.items xs c.loop-class.class-index c.class-item.result c.in_ok-class_of.field-0 (each f xs) c.loop-class-test.true c.class-item.is c.in_ok-class_of.ensures c.loop-class.invariant)

pub returns : goal.returns
returns c =
    let f = (class_in_scope c.args.scope.now) in
    is_done_plain f c.loop-class.found.items c.args.classes.now c.loop-class.class-index (each f c.args.classes.now) c.loop-class-test.false c.loop-class.invariant
