use Rattle.std.proofs.Common.{◌∙◌, ◌∷◌, ap, arith}
use Rattle.json.specs.Json.{parse_map}
use Rattle.json.specs.Reads.{token_of}
use Rattle.json.specs.declared.token.Token.{Token}
use Rattle.serde_json.specs.Data.{array}
use Rattle.token_tree.specs.Tokens.{data_at}
use Rattle.token_tree.proofs.Reading.{data-null, data-array, data-string}
use Rattle.imkl_delivery.proofs.pending_value.read_pending.Goals as goal

pub returns-in-Some-String : goal.returns-in-Some-String
returns-in-Some-String c =
    ap (data_at 123) (c.in-Some-String.ensures.value ∙ ap (λ (t : Token). token_of t ∷ c.next.new.self) c.in-Some-String.field-0-is) ∙ data-string 123 c.in-Some-String.text.now c.next.new.self

pub returns-in-Some-Null : goal.returns-in-Some-Null
returns-in-Some-Null c =
    ap (data_at 123) (c.in-Some-Null.ensures.value ∙ ap (λ (t : Token). token_of t ∷ c.next.new.self) c.in-Some-Null.field-0-is) ∙ data-null 123 c.next.new.self

pub returns-in_ok-singles_of-in-Some-BeginArray : goal.returns-in_ok-singles_of-in-Some-BeginArray
returns-in_ok-singles_of-in-Some-BeginArray c =
    ap (data_at 123) (c.in-Some-BeginArray.ensures.value ∙ ap (λ (t : Token). token_of t ∷ c.next.new.self) c.in-Some-BeginArray.field-0-is) ∙ data-array 123 c.next.new.self (omega arith)
    ∙ ap (parse_map array) (c.in_ok-singles_of-in-Some-BeginArray.ensures 122)
