use Rattle.std.proofs.Common.{◌≡◌, ◌∙◌, [], ◌∷◌, ◌++◌, Some, None, sym, ap, arith, rules}
use Rattle.json.specs.Json.{parse_map, after_end_array}
use Rattle.json.specs.Reads.{token_of}
use Rattle.serde_json.specs.Data.{no_items, item}
use Rattle.token_tree.specs.Tokens.{data_at}
use Rattle.token_tree.specs.Single.{single_view}
use Rattle.token_tree.proofs.Reading.{items_over, items_next}
use Rattle.token_tree.proofs.Singles.{behind, behind-no_items, behind-push}
use Rattle.token_tree.proofs.single.singles_of.Goals as goal

pub returns-then-take_end_array : goal.returns-then-take_end_array
returns-then-take_end_array c = λ depth.
    let l = c.loop in
    let r = c.take_end_array.new.self in
    let over : after_end_array l.reader ≡ Some r = grind arith in
    l.invariant depth no_items r (items_over depth l.reader r over) ∙ ap (λ x. Some (x, r)) (behind-no_items l.found.items)

pub loop-preserved : goal.loop-preserved
loop-preserved c = λ depth rest s h.
    let l = c.loop in
    let v = c.in_ok-single_of.field-0 in
    let r = c.next.new.self in
    let going : (after_end_array l.reader ≡ None) × (c.take_end_array.new.self ≡ l.reader) = grind arith in
    let first : c.take_end_array.new.self ≡ token_of c.in_ok-token.token ∷ r = grind arith in
    let is : l.reader ≡ token_of c.in_ok-token.token ∷ r = sym going.1 ∙ first in
    let read : data_at depth l.reader ≡ Some (single_view v, r) = ap (data_at depth) is ∙ c.in_ok-single_of.ensures depth r in
    let pushed : c.push.new.self.items ≡ l.found.items ++ v ∷ [] = search rules in
    l.invariant depth (item (single_view v) rest) s (items_next depth l.reader r (single_view v) going.0 read ∙ ap (parse_map (item (single_view v))) h)
    ∙ ap (λ x. Some (x, s)) (sym (behind-push l.found.items v rest)) ∙ ap (λ vs. Some (behind vs rest, s)) (sym pushed)
