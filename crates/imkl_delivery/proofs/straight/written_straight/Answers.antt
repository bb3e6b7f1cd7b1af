use Rattle.std.proofs.Common.{◌≡◌, ◌∙◌, [], ◌∷◌, List, Some, Ok, sym, ap, subst, rules}
use Rattle.json.specs.Token.{Token, end_object}
use Rattle.json.specs.Lex.{tokens}
use Rattle.serde_json.specs.Data.{Data}
use Rattle.ocl_base.specs.Steps.{each}
use Rattle.imkl_json.specs.Json.{elements_of}
use Rattle.token_tree.specs.Tokens.{data_at, items_at}
use Rattle.token_tree.proofs.Reading.{read_is}
use Rattle.imkl_delivery.specs.Document.{entry_from}
use Rattle.imkl_delivery.proofs.Taken.{added_there}
use Rattle.imkl_delivery.proofs.FromTokens.{same_there, document_data, document_reads, objects_are, finished_is}
use Rattle.imkl_delivery.proofs.straight.written_straight.Goals as goal

pub returns : goal.returns
returns c =
    let m = c.args.model.now in
    let text = c.args.text.now in
    let b = c.in_ok-builder.builder in
    let is : c.in_ok-reader.reader ≡ tokens text = search rules in
    let put = c.in_ok-put_objects.ensures in
    let ts = c.opens.new.reader in
    let list : items_at 125 ts ≡ Some (put.0, end_object ∷ []) = put.1 ∙ ap (λ (x : List Token). Some (put.0, x)) c.in_ok-closes.ensures in
    let d = document_data m.name put.0 in
    let read = read_is text d (ap (data_at 127) (sym is ∙ c.in_ok-opens.ensures) ∙ document_reads m.name ts put.0 list) in
    let added = added_there m d b (c.in_ok-builder.ensures.added d read) in
    let objects : added.objects ≡ elements_of put.0 = same_there added.objects (elements_of put.0) _ added.taken (objects_are m.name put.0) in
    let entries = subst (λ (x : List Data). each entry_from x ≡ Ok added.entries) objects added.written in
    let done = put.2 added.entries entries in
    (d, read, λ p finished. added.whole ∙ finished_is added.entries b c.put_objects.new.builder p done finished)
