use Rattle.std.proofs.Common.{◌≡◌, None, take}
use Rattle.imkl_population.specs.Finishing.{gap}
use Rattle.imkl_population.specs.Order.{first_in}
use Rattle.imkl_population.proofs.finishing.first_gap_at.Given as goal

abbrev pub invariant-loop-feature : goal.invariant-loop-feature
invariant-loop-feature l = first_in (gap l.builder l.object) (take l.feature-index l.features) ≡ None
