use Rattle.std.proofs.Common.{◌∙◌, List, sym, ap, arith}
use Rattle.json.specs.Token.{Token}
use Rattle.serde_json.specs.Data.{Data, object, Members, no_members}
use Rattle.token_tree.specs.Tokens.{data_at, members_at}
use Rattle.token_tree.proofs.Reading.{map_there, data-object}
use Rattle.imkl_delivery.proofs.outline.skip_features.Goals as goal

pub returns : goal.returns
returns c = λ d r h.
    let ts = c.opens_object.new.reader in
    let opened = sym (data-object 124 ts (omega arith)) ∙ ap (data_at 124) (sym c.in_ok-opens_object.ensures) ∙ h in
    let it = map_there (λ (p : Members × List Token). (object p.0, p.1)) (members_at 123 no_members ts) (d, r) opened in
    let left = c.in_ok-skip_members.ensures no_members it.0.0 it.0.1 it.1 in
    (sym (ap (λ (p : Data × List Token). p.1) it.2) ∙ left, (it.0.0, sym (ap (λ (p : Data × List Token). p.0) it.2)))
