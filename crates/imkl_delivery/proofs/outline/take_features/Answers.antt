use Rattle.imkl_delivery.proofs.FromTokens.{features_found}
use Rattle.imkl_delivery.proofs.outline.take_features.Goals as goal

pub returns : goal.returns
returns c = λ d r h.
    let it = c.in_ok-skip_features.ensures d r h in
    (it.0, λ ms found. features_found c.args.found d ms c.if-has_features.false it.1 found)
