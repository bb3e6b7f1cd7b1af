-- The first of the numbers below a bound that has something.
use Rattle.std.specs.Prelude.{ℕ, zero, suc, Option, None}
use Rattle.std.specs.Option.{option_or}

-- what the first of the numbers below n has that has something
abbrev pub first_below : {A : Type 0} → (ℕ → Option A) → ℕ → Option A
first_below g zero = None
first_below g (suc n) = option_or (first_below g n) (g n)
