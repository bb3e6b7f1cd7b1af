use Rattle.std.proofs.Common.{◌∙◌}
use Rattle.std.proofs.lemmas.Result.{IfOk-weaker}
use Rattle.explain_why.proofs.NameNodes.{spine_bound, let_bound}
use Rattle.explain_why.proofs.names.+bound.Goals as goal

pub bound_after-returns-in_ok-before-in-Spine : goal.bound_after-returns-in_ok-before-in-Spine
bound_after-returns-in_ok-before-in-Spine t c =
    let before = rw c.deref.ensures at c.in_ok-before-in-Spine.ensures in
    let after = rw (c.deref-in-Spine.ensures.value, before) at c.bound_after_links.ensures in
    IfOk-weaker c.bound_after_links.result _ _ (λ n h. h ∙ spine_bound c.args.core.now c.in-Spine.first c.in-Spine.links c.in-Spine.is c.args.bound) after

pub bound_after-returns-in_ok-before-in-Let : goal.bound_after-returns-in_ok-before-in-Let
bound_after-returns-in_ok-before-in-Let t c =
    let before = rw c.deref-in-Let.ensures.value at c.in_ok-before-in-Let.ensures in
    let after = rw (c.deref-in-Let-2.ensures, before) at c.bound_after-in-Let.ensures in
    IfOk-weaker c.bound_after-in-Let.result _ _ (λ n h. h ∙ let_bound c.args.core.now c.in-Let.values c.in-Let.body c.in-Let.is c.args.bound) after
