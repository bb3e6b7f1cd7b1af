use Rattle.std.proofs.Common.{◌≡◌, ◌∙◌, Ok, sym, ap, subst}
use Rattle.serde_json.specs.Data.{Data}
use Rattle.token_tree.specs.Tokens.{data_at}
use Rattle.imkl_population.specs.Population.{Population}
use Rattle.imkl_delivery.specs.Loading.{add_entries}
use Rattle.imkl_delivery.specs.Taken.{added_from}
use Rattle.imkl_delivery.proofs.FromTokens.{outline_there, added_is}
use Rattle.imkl_delivery.proofs.outline.read_outline.Goals as goal

pub returns-clause-added : goal.returns-clause-added
returns-clause-added c = λ d h.
    let m = c.args.model.now in
    let ts = c.opens.new.reader in
    let it = outline_there m.name ts d (ap (data_at 127) (sym c.in_ok-opens.ensures) ∙ h) in
    let added = c.in_ok-add_all.ensures.added it.all it.left it.is in
    let d_is = it.whole (added.0 ∙ c.in_ok-closes.ensures) in
    let from = subst (λ (p : Population). add_entries added.1.0 p ≡ Ok c.add_all.new.builder) c.requires added.1.2 in
    subst (λ (x : Data). added_from m x ≡ Ok c.add_all.new.builder) (sym d_is) (added_is m it.all added.1.0 c.add_all.new.builder added.1.1 from)
