use Rattle.std.proofs.lemmas.Result.{err_from_is_err_and}
use Rattle.ocl_base.specs.Steps.{each}
use Rattle.imkl_model.specs.Numbering.{feature_in_scope}
use Rattle.ocl_base.proofs.ForAbove.{goes_on_plain, is_done_plain, ends_plain}
use Rattle.imkl_model.specs.Faults.{model_fault}
use Rattle.imkl_model.proofs.numbering.features_of.Goals as goal

pub returns-in_err-feature_of : goal.returns-in_err-feature_of
returns-in_err-feature_of c =
    let p = err_from_is_err_and c.from_residual.result c.from_residual.ensures.1 in
    let f = (feature_in_scope c.args.scope.now) in
    let xs = c.args.features.now in
    rw (p.1, p.2) (ends_plain model_fault f c.in_err-feature_of.field-0.0 c.loop-feature.found.items xs c.loop-feature.feature-index c.feature-item.result (each f xs) c.loop-feature-test.true c.feature-item.is c.in_err-feature_of.ensures c.loop-feature.invariant)

pub loop-feature-preserved : goal.loop-feature-preserved
loop-feature-preserved c =
    let f = (feature_in_scope c.args.scope.now) in
    let xs = c.args.features.now in
    rw c.in_ok-push.ensures.items (goes_on_plain f c.loop-feature.found.items xs c.loop-feature.feature-index c.feature-item.result c.in_ok-feature_of.field-0 (each f xs) c.loop-feature-test.true c.feature-item.is c.in_ok-feature_of.ensures c.loop-feature.invariant)

pub returns : goal.returns
returns c =
    let f = (feature_in_scope c.args.scope.now) in
    is_done_plain f c.loop-feature.found.items c.args.features.now c.loop-feature.feature-index (each f c.args.features.now) c.loop-feature-test.false c.loop-feature.invariant
