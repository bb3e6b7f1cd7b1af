use Rattle.std.proofs.Common.{map, rules}
use Rattle.ocl_core.specs.Core.{cores_of}
use Rattle.ocl_core.specs.CoreView.{core_view}
use Rattle.ocl_core.proofs.ForAbove.{views}
use Rattle.ocl_semantics.specs.Resolved.{AreResolved}
use Rattle.explain_why.proofs.Left.{meanings_there}
use Rattle.explain_why.proofs.explainer.Explainer.link_reason.Goals as goal

pub put_operation_reason-requires-clause-others : goal.put_operation_reason-requires-clause-others
put_operation_reason-requires-clause-others c =
    let p = c.args.self.population.now.content in
    let others = cores_of (map core_view c.in-Operation.others.items) in
    let link = rw c.in-Operation.is at c.requires.link in
    let resolved : AreResolved p.model others = search (views, rules) in
    let values = rw c.deref.ensures.value at c.in_ok-others-in-Operation.ensures.values in
    rw (c.deref-in-Operation.ensures.value, values) (meanings_there p c.consistent.ensures others c.args.variables.now resolved c.requires.there)
