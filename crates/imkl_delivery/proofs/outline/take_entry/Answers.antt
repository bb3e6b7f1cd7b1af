use Rattle.std.proofs.Common.{◌≡◌, ◌∙◌, List, sym, ap, arith}
use Rattle.json.specs.Token.{Token}
use Rattle.serde_json.specs.Data.{Data, object, Members, no_members}
use Rattle.token_tree.specs.Tokens.{data_at, members_at}
use Rattle.token_tree.proofs.Reading.{map_there, data-object}
use Rattle.imkl_delivery.specs.Document.{entry_from}
use Rattle.imkl_delivery.proofs.FromTokens.{entry_is}
use Rattle.imkl_delivery.proofs.outline.take_entry.Goals as goal

pub returns : goal.returns
returns c = λ d r h.
    let ts = c.opens_object.new.reader in
    let opened = sym (data-object 125 ts (omega arith)) ∙ ap (data_at 125) (sym c.in_ok-opens_object.ensures) ∙ h in
    let it = map_there (λ (p : Members × List Token). (object p.0, p.1)) (members_at 124 no_members ts) (d, r) opened in
    let found = c.in_ok-found.ensures it.0.0 it.0.1 it.1 in
    let has = c.in_ok-head.ensures it.0.0 found.1 in
    let d_is : object it.0.0 ≡ d = ap (λ (p : Data × List Token). p.0) it.2 in
    (sym (ap (λ (p : Data × List Token). p.1) it.2) ∙ found.0, (has.features.0, ap entry_from (sym d_is) ∙ entry_is c.in_ok-head.head.id.now c.in_ok-head.head.class.now it.0.0 has))
