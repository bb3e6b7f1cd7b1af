use Rattle.std.proofs.Common.{sym, ◌∙◌}
use Rattle.std.proofs.lemmas.Result.{IfOk-weaker}
use Rattle.ocl_core.specs.CoreView.{core_view}
use Rattle.ocl_semantics.proofs.ForAbove.{spine_meaning}
use Rattle.explain_why.proofs.explainer.Explainer.spine_value.Goals as goal

pub returns-clause-value : goal.returns-clause-value
returns-clause-value c =
    let after = rw (c.in_ok-value.ensures.kept, c.in_ok-value.ensures.value) at c.evaluate_links.ensures.value in
    IfOk-weaker c.evaluate_links.result _ _ (λ v h. h ∙ sym (spine_meaning c.args.self.population.now.content c.args.variables.now c.args.links.now (core_view c.args.first.now))) after
