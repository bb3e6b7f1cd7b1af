use Rattle.std.proofs.Common.{◌≡◌, drop}
use Rattle.ocl_base.specs.Steps.{each}
use Rattle.imkl_model.specs.Numbering.{feature_in_scope}
use Rattle.ocl_base.proofs.ForAbove.{with_front}
use Rattle.imkl_model.proofs.numbering.features_of.Given as goal

abbrev pub invariant-loop-feature : goal.invariant-loop-feature
invariant-loop-feature l = with_front l.found.items (each (feature_in_scope l.scope) (drop l.feature-index l.features)) ≡ each (feature_in_scope l.scope) l.features
