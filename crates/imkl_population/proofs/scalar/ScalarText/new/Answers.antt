use Rattle.std.proofs.Common.{rules}
use Rattle.std.proofs.lemmas.Str.{chars_from_encodes}
use Rattle.imkl_population.proofs.scalar.ScalarText.new.Goals as goal

pub invariant_of-result : goal.invariant_of-result
invariant_of-result c = search (rules, chars_from_encodes)
