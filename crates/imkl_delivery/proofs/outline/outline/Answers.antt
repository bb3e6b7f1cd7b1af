use Rattle.std.proofs.Common.{◌≡◌, ◌∙◌, ap, rules}
use Rattle.json.specs.Lex.{tokens}
use Rattle.token_tree.specs.Tokens.{data_at}
use Rattle.token_tree.proofs.Reading.{read_there}
use Rattle.imkl_delivery.proofs.outline.outline.Goals as goal

pub returns-clause-added : goal.returns-clause-added
returns-clause-added c = λ d h.
    let is : c.in_ok-reader.reader ≡ tokens c.args.text.now = search rules in
    c.in_ok-read_outline.ensures.added d (ap (data_at 127) is ∙ read_there c.args.text.now d h)
