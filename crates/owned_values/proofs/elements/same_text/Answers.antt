use Rattle.std.proofs.Common.{◌∙◌}
use Rattle.owned_values.proofs.Characters.{same_chars}
use Rattle.owned_values.proofs.elements.same_text.Goals as goal

-- src/elements.rt
pub returns : goal.returns
returns c = c.eq.ensures ∙ same_chars c.args.a.now c.args.b.now c.utf8.a c.utf8.b
