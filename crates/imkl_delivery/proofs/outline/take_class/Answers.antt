use Rattle.std.proofs.Common.{◌∙◌, Some, codes, sym, ap, subst}
use Rattle.serde_json.specs.Data.{Data, string, put}
use Rattle.token_tree.specs.Tokens.{data_at}
use Rattle.token_tree.proofs.Reading.{data-string}
use Rattle.imkl_delivery.specs.Straight.{AreFound}
use Rattle.imkl_delivery.proofs.FromTokens.{same_read, class_found}
use Rattle.imkl_delivery.proofs.outline.take_class.Goals as goal

pub returns : goal.returns
returns c = λ d r h.
    let i = c.in_ok-class.class in
    let ts = c.string.new.reader in
    let both = same_read {A = Data} (string i.now) d ts r (data_at 124 c.args.reader.now) (ap (data_at 124) c.in_ok-class.ensures ∙ data-string 124 i.now ts) h in
    (sym both.1, λ ms found. subst (λ (x : Data). AreFound (record { id = c.args.found.id; class = Some i; features = c.args.found.features }) (put (codes "class") x ms)) both.0 (class_found c.args.found i ms (sym c.if-is_some.ensures) found))
