-- The greatest lengths of the values at a feature.
use Rattle.std.proofs.Common.{◌≡◌, ℕ, zero, suc, [], ◌∷◌, length, refl, arith, length-append}
use Rattle.imkl_population.specs.Sizes.{list_below}

-- as many numbers as were asked for
pub length-list_below : (g : ℕ → ℕ) (n : ℕ) → length (list_below g n) ≡ n
length-list_below g zero = refl
length-list_below g (suc n) = omega (arith, length-append (list_below g n) (g n ∷ []), length-list_below g n)
