use Rattle.std.proofs.Common.{map}
use Rattle.std.proofs.lemmas.Result.{err_from_is_err_and}
use Rattle.std.proofs.lemmas.List.Elements.{All-push}
use Rattle.serde_json.specs.View.{view}
use Rattle.ocl_base.specs.Steps.{each}
use Rattle.ocl_base.proofs.ForAbove.{goes_on, is_done, ends}
use Rattle.imkl_model.specs.Faults.{model_fault}
use Rattle.imkl_model.proofs.lists.each_of.Goals as goal

pub returns-in_err-of-clause-trees : goal.returns-in_err-of-clause-trees
returns-in_err-of-clause-trees g c =
    let p = err_from_is_err_and c.from_residual.result c.from_residual.ensures.1 in
    let total = each g.T.Spelled.spelled (map view c.args.values.now) in
    rw (p.1, p.2) (ends model_fault g.T.Spelled.spelled view c.in_err-of.field-0.0 c.loop-value.found.items c.args.values.now c.loop-value.value-index c.value-item.result total c.loop-value-test.true c.value-item.is c.in_err-of.ensures.tree c.loop-value.invariant.read)

pub loop-value-preserved : goal.loop-value-preserved
loop-value-preserved g c =
    let total = each g.T.Spelled.spelled (map view c.args.values.now) in
    record {
      read = rw c.in_ok-push.ensures.items (goes_on g.T.Spelled.spelled view c.loop-value.found.items c.args.values.now c.loop-value.value-index c.value-item.result c.in_ok-of.field-0 total c.loop-value-test.true c.value-item.is c.in_ok-of.ensures.tree c.loop-value.invariant.read);
      fits = rw c.in_ok-push.ensures.items (All-push g.T.Spelled.fits c.loop-value.found.items c.in_ok-of.field-0 c.loop-value.invariant.fits c.in_ok-of.ensures.fits);
    }

pub returns-clause-trees : goal.returns-clause-trees
returns-clause-trees g c = is_done g.T.Spelled.spelled view c.loop-value.found.items c.args.values.now c.loop-value.value-index (each g.T.Spelled.spelled (map view c.args.values.now)) c.loop-value-test.false c.loop-value.invariant.read
