use Rattle.ocl_pipeline.proofs.OneReading.{read_alike}
use Rattle.ocl_pipeline.proofs.laws.readings_are_determined.Goals as goal

pub returns : goal.returns
returns c = read_alike c.tokens_are_determined.ensures.tokens c.tokens_are_determined.ensures.fault c.tokens_are_determined.ensures.never_both c.rules_are_determined.ensures.one
