-- Tests of the numbers below a bound.
use Rattle.std.proofs.Common.{◌≡◌, ℕ, zero, suc, ◌<◌, Bool, true, false, refl, sym, ap, ◌∙◌, arith, inl, inr}
use Rattle.std.proofs.lemmas.Bool.{false≢true, or_cases, or_right}
use Rattle.std.proofs.lemmas.Bool.Decides.{leb_tells}
use Rattle.imkl_model.specs.Chains.{any_below}

-- some number below n passes
pub any_found : (p : ℕ → Bool) (n k : ℕ) → k < n → p k ≡ true → any_below p n ≡ true
any_found p zero k lt passes = absurd (omega (arith, lt))
any_found p (suc n) k lt passes =
    elim (leb_tells n k) [
      | inl le ↦ let same : k ≡ n = omega (arith, le.1) in or_right (any_below p n) (p n) (ap p (sym same) ∙ passes)
      | inr less ↦ rw (any_found p n k less.1 passes) refl
    ]

-- where the test says that some number below n passes, one does
pub found_any : (p : ℕ → Bool) (n : ℕ) → any_below p n ≡ true → (k : ℕ) × (k < n) × (p k ≡ true)
found_any p zero e = absurd (false≢true e)
found_any p (suc n) e =
    elim (or_cases (any_below p n) (p n) e) [
      | inl before ↦ let w = found_any p n before in (w.0, omega (arith, w.1), w.2)
      | inr here ↦ (n, omega arith, here)
    ]

-- no number below n passes
pub any_none : (p : ℕ → Bool) (n : ℕ) → ((k : ℕ) → k < n → p k ≡ false) → any_below p n ≡ false
any_none p zero none = refl
any_none p (suc n) none = rw (any_none p n (λ k lt. none k (omega (arith, lt))), none n (omega arith)) refl

-- the same test at each number below n
pub any_same : (p q : ℕ → Bool) (n : ℕ) → ((k : ℕ) → k < n → p k ≡ q k) → any_below p n ≡ any_below q n
any_same p q zero same = refl
any_same p q (suc n) same = rw (any_same p q n (λ k lt. same k (omega (arith, lt))), same n (omega arith)) refl
