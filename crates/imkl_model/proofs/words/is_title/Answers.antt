use Rattle.std.proofs.Common.{rules}
use Rattle.std.proofs.lemmas.Str.{chars_from_encodes}
use Rattle.imkl_model.specs.Words.{is_title}
use Rattle.imkl_model.proofs.words.is_title.Goals as goal

pub returns-then-count-ge1 : goal.returns-then-count-ge1
unfolding is_title
returns-then-count-ge1 c = search (rules, chars_from_encodes)

pub returns-else-count-ge1 : goal.returns-else-count-ge1
unfolding is_title
returns-else-count-ge1 c = search (rules, chars_from_encodes)
