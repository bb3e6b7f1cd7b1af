-- What the value of a rule's expression says of an object.
use Rattle.std.specs.Prelude.{true, false}
use Rattle.imkl_population.specs.declared.scalar.Scalar.TheVariants as scalar
use Rattle.rule_values.specs.declared.verdict.Verdict.{Verdict}
use Rattle.rule_values.specs.declared.verdict.Verdict.TheVariants.{Holds, Fails, Undecided}
use Rattle.rule_values.specs.Value.{Value, Single}

-- true holds, false fails, null and invalid are undecided
abbrev pub verdict_of : Value → Verdict
verdict_of (Single (scalar.Bool true)) = Holds
verdict_of (Single (scalar.Bool false)) = Fails
verdict_of v = Undecided
