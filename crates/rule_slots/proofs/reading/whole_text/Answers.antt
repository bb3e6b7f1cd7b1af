use Rattle.std.proofs.Common.{length, sym, ap, ◌∙◌}
use Rattle.std.specs.Prelude.{encode_utf8_all}
use Rattle.std.proofs.lemmas.Str.{encodes-chars}
use Rattle.rule_slots.specs.Slots.{text_slot}
use Rattle.rule_slots.proofs.reading.whole_text.Goals as goal

pub returns : goal.returns
returns c =
    c.text_slot.ensures ∙ ap (λ k. text_slot 0 c.args.index 0 k) (ap length (sym (encodes-chars c.as_str-bytes.result.now c.as_str-bytes.utf8) ∙ ap encode_utf8_all c.as_str-bytes.ensures))
