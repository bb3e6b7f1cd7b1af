use Rattle.std.proofs.Common.{rules}
use Rattle.std.proofs.lemmas.Str.{chars_from_encodes}
use Rattle.owned_values.proofs.texts.character_count.Goals as goal

-- src/texts.rt
pub returns : goal.returns
returns c = search (rules, chars_from_encodes)
