use Rattle.std.proofs.Common.{refl}
use Rattle.ocl_tokens.proofs.Total.{no_reserved_identifier}
use Rattle.ocl_tokens.proofs.laws.reserved_words_are_tokens.Goals as goal

pub returns-clause-table : goal.returns-clause-table
returns-clause-table c = refl

pub returns-clause-identifier : goal.returns-clause-identifier
returns-clause-identifier c = no_reserved_identifier
