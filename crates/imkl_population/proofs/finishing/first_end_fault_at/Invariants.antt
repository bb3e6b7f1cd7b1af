use Rattle.std.proofs.Common.{◌≡◌, None, take}
use Rattle.imkl_population.specs.Finishing.{end_fault}
use Rattle.imkl_population.specs.Order.{first_in}
use Rattle.imkl_population.proofs.finishing.first_end_fault_at.Given as goal

abbrev pub invariant-loop-feature : goal.invariant-loop-feature
invariant-loop-feature l = first_in (end_fault l.builder l.object) (take l.feature-index l.features) ≡ None
