-- Rules whose bounds are within a budget, and the first that isn't.
use Rattle.std.proofs.Common.{◌≡◌, ℕ, zero, suc, ◌<◌, Bool, true, false, length, Some, None, Ok, Err, refl, sym, ap, ◌∙◌, inl, inr, arith}
use Rattle.std.specs.Prelude.{not, if◌then◌else◌}
use Rattle.std.specs.Option.{option_or}
use Rattle.std.proofs.lemmas.Bool.{lt-leb}
use Rattle.std.proofs.lemmas.Bool.Decides.{leb_tells}
use Rattle.ocl_base.specs.Numbers.{least}
use Rattle.imkl_population.specs.Sizes.{Sizes}
use Rattle.rule_code.specs.Content.{Content}
use Rattle.rule_cost.specs.declared.cut.Bound.{Bound}
use Rattle.rule_cost.specs.declared.cut.Bound.TheVariants.{Steps, Over}
use Rattle.rule_cost.specs.Limits.{limited_bound}
use Rattle.rule_cost.specs.Admission.{rule_step_bound, is_affordable, refused_at, admission}

-- the first n rules are within the budget
abbrev pub AllAffordable : Content → Sizes → ℕ → ℕ → Type 0
AllAffordable u z budget n = (r : ℕ) → r < n → is_affordable budget (limited_bound (rule_step_bound u z r)) ≡ true

-- ---- the least number that passes a test

-- where none passes there is none
least_none : (p : ℕ → Bool) (n : ℕ) → ((k : ℕ) → k < n → p k ≡ false) → least p n ≡ None
least_none p zero h = refl
least_none p (suc n) h =
    ap (λ o. option_or o (if p n then Some n else None)) (least_none p n (λ k lt. h k (omega (arith, lt)))) ∙ ap (λ b. if b then Some n else None) (h n (omega arith))

-- one before which none passes
least_first : (p : ℕ → Bool) (n r : ℕ) → r < n → p r ≡ true → ((k : ℕ) → k < r → p k ≡ false) → least p n ≡ Some r
least_first p zero r lt passes h = absurd (omega (arith, lt))
least_first p (suc n) r lt passes h = elim (leb_tells n r) [
  | inl e ↦
      let same : r ≡ n = omega (arith, e.1, lt) in
      ap (λ o. option_or o (if p n then Some n else None)) (least_none p n (λ k less. h k (omega (arith, less, same))))
      ∙ ap (λ b. if b then Some n else None) (ap p (sym same) ∙ passes) ∙ ap (λ m. Some m) (sym same)
  | inr e ↦ ap (λ o. option_or o (if p n then Some n else None)) (least_first p n r e.1 passes h)
]

-- ---- admission

-- a unit is admitted whose rules are all within the budget
pub all_admitted : (u : Content) (z : Sizes) (budget : ℕ) → AllAffordable u z budget (length u.rules) → admission u z budget ≡ Ok tt
all_admitted u z budget h =
    ap refused_at (least_none (λ r. not (is_affordable budget (limited_bound (rule_step_bound u z r)))) (length u.rules) (λ k lt. ap not (h k lt)))

-- else it is refused at the first that isn't
pub first_refused : (u : Content) (z : Sizes) (budget r : ℕ) → r < length u.rules → AllAffordable u z budget r → is_affordable budget (limited_bound (rule_step_bound u z r)) ≡ false → admission u z budget ≡ Err r
first_refused u z budget r lt h over =
    ap refused_at (least_first (λ k. not (is_affordable budget (limited_bound (rule_step_bound u z k)))) (length u.rules) r lt (ap not over) (λ k less. ap not (h k less)))

-- more charges than the budget
pub steps_above : (budget n : ℕ) (b : Bound) → b ≡ Steps n → budget < n → is_affordable budget b ≡ false
steps_above budget n b is lt = ap (is_affordable budget) is ∙ lt-leb n budget lt

-- a bound that is over
pub no_steps : (budget : ℕ) (b : Bound) → ((n : ℕ) → b ≡ Steps n → ⊥) → is_affordable budget b ≡ false
no_steps budget (Steps n) h = absurd (h n refl)
no_steps budget Over h = refl
