-- Numbers that pass a test.
use Rattle.std.proofs.Common.{◌≡◌, ℕ, ◌<◌, Bool, true, All}
use Rattle.ocl_base.specs.Numbers.{places}
use Rattle.ocl_base.proofs.ForAbove.{places_below, places_pass}

-- a number below n that passes
abbrev pub Passes : (ℕ → Bool) → ℕ → ℕ → Type 0
Passes p n k = (k < n) × (p k ≡ true)

-- each of the places is below the bound and passes
pub places-pass : (p : ℕ → Bool) (n : ℕ) → All (Passes p n) (places p n)
places-pass p n = λ k d lt. (places_below p n k d lt, places_pass p n k d lt)
