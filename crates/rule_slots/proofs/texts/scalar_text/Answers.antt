use Rattle.std.proofs.Common.{Some, sym, ap, ◌∙◌}
use Rattle.std.specs.Prelude.{encode_utf8_all}
use Rattle.std.proofs.lemmas.Str.{encodes-chars}
use Rattle.rule_slots.specs.Compared.{text_bytes}
use Rattle.rule_slots.proofs.texts.scalar_text.Goals as goal

pub returns-in-Text : goal.returns-in-Text
returns-in-Text c =
    sym (encodes-chars c.as_str.result.now c.as_str.utf8) ∙ ap encode_utf8_all c.as_str.ensures ∙ ap (λ v. text_bytes (Some v)) (sym c.in-Text.is)
