use Rattle.std.proofs.Common.{◌≡◌, drop}
use Rattle.imkl_population.specs.Values.{repeats_value}
use Rattle.imkl_population.proofs.repeats.repeats_among_few.Given as goal

-- all have a value twice where those that are left have one
abbrev pub invariant-loop-place : goal.invariant-loop-place
invariant-loop-place l = repeats_value l.values ≡ repeats_value (drop l.place l.values)
