use Rattle.ocl_kinds.proofs.ForAbove.{features_have_kinds}
use Rattle.ocl_kinds.proofs.laws.features.Goals as goal

pub returns : goal.returns
returns c = features_have_kinds
