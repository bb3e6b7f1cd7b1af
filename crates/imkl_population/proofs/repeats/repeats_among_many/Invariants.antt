use Rattle.std.proofs.Common.{◌≡◌, true, false, take}
use Rattle.imkl_population.specs.declared.scalar.Scalar.{Scalar}
use Rattle.imkl_population.specs.Seen.{has_seen, is_encodable}
use Rattle.imkl_population.specs.Values.{is_value_among, repeats_value}
use Rattle.imkl_population.proofs.repeats.repeats_among_many.Given as goal

abbrev pub invariant-loop-value : goal.invariant-loop-value
invariant-loop-value l = record {
  seen : (w : Scalar) → is_encodable w ≡ true → has_seen l.seen w ≡ is_value_among (take l.value-index l.values) w;
  apart : repeats_value (take l.value-index l.values) ≡ false;
}
