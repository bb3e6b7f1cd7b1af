use Rattle.std.proofs.Common.{◌∙◌, ◌∷◌, ap}
use Rattle.json.specs.Reads.{token_of}
use Rattle.json.specs.declared.token.Token.{Token}
use Rattle.serde_json.specs.View.{number_view}
use Rattle.token_tree.specs.Tokens.{data_at}
use Rattle.token_tree.proofs.Reading.{data-string, data-boolean, data-number}
use Rattle.token_tree.proofs.single.single_of.Goals as goal

pub returns-in-Bool : goal.returns-in-Bool
returns-in-Bool c = λ depth ts. ap (λ (t : Token). data_at depth (token_of t ∷ ts)) c.in-Bool.is ∙ data-boolean depth c.in-Bool.truth ts

pub returns-in-Some : goal.returns-in-Some
returns-in-Some c = λ depth ts. ap (λ (t : Token). data_at depth (token_of t ∷ ts)) c.in-Number.is ∙ data-number depth c.in-Number.text.now (number_view c.in-Some.number) ts c.in-Some.ensures

pub returns-in-String : goal.returns-in-String
returns-in-String c = λ depth ts. ap (λ (t : Token). data_at depth (token_of t ∷ ts)) c.in-String.is ∙ data-string depth c.in-String.text.now ts
