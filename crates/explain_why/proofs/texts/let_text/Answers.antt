use Rattle.std.proofs.Common.{rules}
use Rattle.explain_why.specs.NameWalk.{naming_view, inner_view}
use Rattle.explain_why.proofs.TextNodes.{let_text_is}
use Rattle.explain_why.proofs.texts.let_text.Goals as goal

pub returns : goal.returns
returns c =
    let whole = let_text_is c.args.model.now c.args.values.now c.args.body.now (naming_view c.args.naming) (inner_view c.in_ok-within.within) c.in_ok-within.ensures.names in
    search rules
