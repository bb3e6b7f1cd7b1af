use Rattle.std.proofs.Common.{◌≡◌, drop}
use Rattle.imkl_population.specs.Values.{is_value_among}
use Rattle.imkl_population.proofs.repeats.is_among.Given as goal

-- what is among all is among those that are left
abbrev pub invariant-loop-other : goal.invariant-loop-other
invariant-loop-other l = is_value_among l.values l.value ≡ is_value_among (drop l.other-index l.values) l.value
