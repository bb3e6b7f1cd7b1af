use Rattle.std.proofs.Common.{◌∙◌}
use Rattle.std.proofs.lemmas.Bool.{eqb-true}
use Rattle.rule_slots.proofs.Characters.{bytes_by_characters}
use Rattle.rule_slots.proofs.texts.is_single_bytes.Goals as goal

pub returns-clause-single : goal.returns-clause-single
returns-clause-single c = λ h.
    let s = c.as_str.result.now in
    let n = c.character_count.result in
    bytes_by_characters s c.args.text.now c.as_str.ensures c.as_str.utf8 ∙ eqb-true _ n h ∙ c.character_count.ensures
