-- Numbers past which a bound is over.
use Rattle.std.specs.Prelude.{ℕ, ◌^◌, ◌≡◌, min, nat_lt, if◌then◌else◌}
use Rattle.rule_cost.specs.declared.cut.Bound.{Bound}
use Rattle.rule_cost.specs.declared.cut.Bound.TheVariants.{Steps, Over}

abbrev pub step_limit : ℕ
step_limit = 2 ^ 63

-- a number of charges where it is below the limit, and over from there on
abbrev pub limited_bound : ℕ → Bound
limited_bound n = if nat_lt n step_limit then Steps n else Over

-- a number, or the limit where it is greater
abbrev pub capped : ℕ → ℕ
capped n = min n step_limit

-- two numbers that are one when they are cut
abbrev pub SameCut : ℕ → ℕ → Type 0
SameCut m n = capped m ≡ capped n
