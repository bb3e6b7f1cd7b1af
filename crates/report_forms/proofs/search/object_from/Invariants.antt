use Rattle.std.proofs.Common.{◌≡◌, drop}
use Rattle.imkl_population.specs.Population.{object_number_in}
use Rattle.report_forms.proofs.search.object_from.Given as goal

-- the object is among those that are left, or not there
abbrev pub invariant-loop-index : goal.invariant-loop-index
invariant-loop-index l =
    object_number_in l.first (drop l.first l.population.content.objects) l.id ≡ object_number_in l.index (drop l.index l.population.content.objects) l.id
