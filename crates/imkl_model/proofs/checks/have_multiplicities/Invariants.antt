use Rattle.std.proofs.Common.{◌≡◌, drop}
use Rattle.std.specs.List.{list_all}
use Rattle.imkl_model.specs.Checks.{has_multiplicity}
use Rattle.imkl_model.proofs.checks.have_multiplicities.Given as goal

abbrev pub invariant-loop-feature : goal.invariant-loop-feature
invariant-loop-feature l = list_all has_multiplicity (drop l.feature-index l.features) ≡ list_all has_multiplicity l.features
