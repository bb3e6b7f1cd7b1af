-- Cut numbers: cutting early or late is the same.
use Rattle.std.proofs.Common.{◌≡◌, ℕ, zero, suc, ◌+◌, ◌*◌, ◌<◌, ◌≤◌, inl, inr, sym, ap, ◌∙◌, arith}
use Rattle.std.specs.Prelude.{max}
use Rattle.std.proofs.lemmas.Bool.Decides.{leb_tells}
use Rattle.std.proofs.Math.Nat.{min-eq_left, min-eq_right, le-mul_of_pos_right, mul_comm, mul-zero}
use Rattle.rule_cost.specs.Limits.{step_limit, capped, SameCut}

-- ---- sums, products, maxima

-- a sum, cut, is the sum of cut numbers, cut
pub plus_cut : (a b : ℕ) → capped (a + b) ≡ capped (capped a + capped b)
plus_cut a b = omega arith

-- the greater of two, cut, is the greater of the cut ones
pub max_cut : (a b : ℕ) → capped (max a b) ≡ max (capped a) (capped b)
max_cut a b = omega arith

-- a factor past the limit, of a number that isn't zero
past_limit : (a b : ℕ) → step_limit < a → capped (a * b) ≡ capped (step_limit * b)
past_limit a zero lt = ap capped (mul-zero a ∙ sym (mul-zero step_limit))
past_limit a (suc b) lt =
    let one : a ≤ a * suc b = le-mul_of_pos_right a (omega arith) in
    let two : step_limit ≤ step_limit * suc b = le-mul_of_pos_right step_limit (omega arith) in
    min-eq_right (omega (arith, one, lt)) ∙ sym (min-eq_right two)

factor_cut : (a b : ℕ) → capped (a * b) ≡ capped (capped a * b)
factor_cut a b =
    elim (leb_tells a step_limit) [
      | inl h ↦ ap (λ k. capped (k * b)) (sym (min-eq_left h.1))
      | inr h ↦ past_limit a b h.1 ∙ ap (λ k. capped (k * b)) (sym (min-eq_right (omega (arith, h.1))))
    ]

-- and a product, cut, is the product of cut numbers, cut
pub times_cut : (a b : ℕ) → capped (a * b) ≡ capped (capped a * capped b)
times_cut a b = factor_cut a b ∙ ap capped (mul_comm (capped a) b) ∙ factor_cut b (capped a) ∙ ap capped (mul_comm (capped b) (capped a))

-- ---- numbers that are one when they are cut

-- sums of numbers that are one when they are cut are one when they are cut
pub plus_same : (a b c d : ℕ) → SameCut a c → SameCut b d → SameCut (a + b) (c + d)
plus_same a b c d e f = plus_cut a b ∙ ap (λ k. capped (k + capped b)) e ∙ ap (λ k. capped (capped c + k)) f ∙ sym (plus_cut c d)

-- and so are products
pub times_same : (a b c d : ℕ) → SameCut a c → SameCut b d → SameCut (a * b) (c * d)
times_same a b c d e f = times_cut a b ∙ ap (λ k. capped (k * capped b)) e ∙ ap (λ k. capped (capped c * k)) f ∙ sym (times_cut c d)

-- and the greater ones
pub max_same : (a b c d : ℕ) → SameCut a c → SameCut b d → SameCut (max a b) (max c d)
max_same a b c d e f = max_cut a b ∙ ap (λ k. max k (capped b)) e ∙ ap (λ k. max (capped c) k) f ∙ sym (max_cut c d)

-- a number that was cut
pub cut_again : (r n : ℕ) → r ≡ capped n → SameCut r n
cut_again r n is = ap capped is ∙ (let h : capped (capped n) ≡ capped n = omega arith in h)

-- ---- bounds
