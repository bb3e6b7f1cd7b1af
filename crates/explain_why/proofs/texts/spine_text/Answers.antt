use Rattle.std.proofs.lemmas.Result.{IfOk-weaker}
use Rattle.std.proofs.Common.{◌∙◌}
use Rattle.ocl_core.specs.CoreView.{core_view}
use Rattle.explain_why.specs.NameWalk.{naming_view}
use Rattle.explain_why.proofs.TextNodes.{spine_text_is}
use Rattle.explain_why.proofs.texts.spine_text.Goals as goal

pub returns : goal.returns
returns c =
    let whole = spine_text_is c.args.model.now (core_view c.args.first.now) c.args.links.now (naming_view c.args.naming) (naming_view c.in_ok-behind.behind) c.in_ok-text.text c.in_ok-behind.ensures c.in_ok-text.ensures.text c.in_ok-text.ensures.wraps in
    IfOk-weaker c.links_text.result _ _ (λ t h. h ∙ whole) c.links_text.ensures
