use Rattle.std.proofs.Common.{◌∙◌, ◌++◌, length, sym, ap, subst}
use Rattle.std.specs.Prelude.{encode_utf8_all}
use Rattle.rule_slots.specs.Cut.{AreSingleBytes}
use Rattle.rule_slots.proofs.Characters.{bytes_by_characters}
use Rattle.rule_slots.proofs.SingleBytes.{single-part, whole-part}
use Rattle.rule_slots.proofs.texts.length_of.Goals as goal

pub returns-then-slot-as_str : goal.returns-then-slot-as_str
returns-then-slot-as_str c = λ t is.
    let whole = is.front ++ (t ++ is.rest) in
    let text = c.in-Some.text.now in
    let s = c.as_str.result.now in
    let same = c.in-Some.ensures whole is.there in
    let all = sym is.count ∙ c.if-slot-as_str.true ∙ sym (bytes_by_characters s text c.as_str.ensures c.as_str.utf8) ∙ ap (λ x. length (encode_utf8_all x)) same in
    c.character_count.ensures ∙ ap length same ∙ sym (whole-part is.front t is.rest all)

pub returns-then-is_single_bytes : goal.returns-then-is_single_bytes
returns-then-is_single_bytes c = λ t is.
    let whole = is.front ++ (t ++ is.rest) in
    let single = subst AreSingleBytes (c.in-Some.ensures whole is.there) (c.is_single_bytes.ensures.single c.if-is_single_bytes.true) in
    is.count ∙ single-part is.front t is.rest single

pub returns : goal.returns
returns c = λ t is. c.character_count-2.ensures ∙ ap length (c.text_of.ensures.text t is)
