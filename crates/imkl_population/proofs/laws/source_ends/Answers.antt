use Rattle.imkl_population.proofs.SourceEnds.{source_is}
use Rattle.imkl_population.proofs.laws.source_ends.Goals as goal

pub returns : goal.returns
returns c = source_is
