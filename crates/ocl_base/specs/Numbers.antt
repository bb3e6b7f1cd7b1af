-- The numbers below a bound that pass a test.
use Rattle.std.specs.Prelude.{ℕ, zero, suc, Bool, List, [], ◌∷◌, ◌++◌, Option, Some, None, if◌then◌else◌}
use Rattle.std.specs.Option.{option_or}

-- all of them, in order
abbrev pub places : (ℕ → Bool) → ℕ → List ℕ
places p zero = []
places p (suc n) = places p n ++ (if p n then n ∷ [] else [])

-- the least of them
abbrev pub least : (ℕ → Bool) → ℕ → Option ℕ
least p zero = None
least p (suc n) = option_or (least p n) (if p n then Some n else None)
