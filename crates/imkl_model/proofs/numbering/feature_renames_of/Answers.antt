use Rattle.std.proofs.lemmas.Result.{err_from_is_err_and}
use Rattle.ocl_base.specs.Steps.{each}
use Rattle.imkl_model.specs.Numbering.{feature_rename_in_scope}
use Rattle.ocl_base.proofs.ForAbove.{goes_on_plain, is_done_plain, ends_plain}
use Rattle.imkl_model.specs.Faults.{model_fault}
use Rattle.imkl_model.proofs.numbering.feature_renames_of.Goals as goal

pub returns-in_err-feature_rename_of : goal.returns-in_err-feature_rename_of
returns-in_err-feature_rename_of c =
    let p = err_from_is_err_and c.from_residual.result c.from_residual.ensures.1 in
    let f = (feature_rename_in_scope c.args.scope.now c.args.features.now) in
    let xs = c.args.renames.now in
    rw (p.1, p.2) (ends_plain model_fault f c.in_err-feature_rename_of.field-0.0 c.loop-rename.found.items xs c.loop-rename.rename-index c.rename-item.result (each f xs) c.loop-rename-test.true c.rename-item.is c.in_err-feature_rename_of.ensures c.loop-rename.invariant)

pub loop-rename-preserved : goal.loop-rename-preserved
loop-rename-preserved c =
    let f = (feature_rename_in_scope c.args.scope.now c.args.features.now) in
    let xs = c.args.renames.now in
    rw c.in_ok-push.ensures.items (goes_on_plain f c.loop-rename.found.items xs c.loop-rename.rename-index c.rename-item.result c.in_ok-feature_rename_of.field-0 (each f xs) c.loop-rename-test.true c.rename-item.is c.in_ok-feature_rename_of.ensures c.loop-rename.invariant)

pub returns : goal.returns
returns c =
    let f = (feature_rename_in_scope c.args.scope.now c.args.features.now) in
    is_done_plain f c.loop-rename.found.items c.args.renames.now c.loop-rename.rename-index (each f c.args.renames.now) c.loop-rename-test.false c.loop-rename.invariant
