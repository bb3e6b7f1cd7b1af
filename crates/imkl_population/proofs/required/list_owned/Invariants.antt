use Rattle.imkl_population.specs.Owners.{AreListedByOwner}
use Rattle.imkl_population.proofs.required.list_owned.Given as goal

abbrev pub invariant-loop-feature : goal.invariant-loop-feature
invariant-loop-feature l = AreListedByOwner (record { model = l.model; side = l.side }) l.feature l.lists.items
