-- The holders of an object: each is one of the holders below, and none stands twice.
use Rattle.std.proofs.Common.{◌≡◌, ◌⊎◌, ℕ, zero, suc, ◌<◌, ◌==◌, Bool, true, false, List, [], ◌∷◌, ◌++◌, refl, sym, ap, subst, ◌∙◌, inl, inr, nat_lt, arith, if◌then◌else◌}
use Rattle.std.specs.List.{list_all}
use Rattle.std.proofs.lemmas.Bool.{false≢true, and_parts, and_from, or_parts, or_from, ltb-true, lt-ltb, ne_eqb, eqb-true, eq-eqb}
use Rattle.std.proofs.lemmas.List.{append-nil, map-append}
use Rattle.std.proofs.lemmas.List.Folds.{list_all-append}
use Rattle.imkl_population.specs.declared.scalar.Scalar.{Scalar}
use Rattle.imkl_population.specs.declared.scalar.Scalar.TheVariants as scalar
use Rattle.imkl_population.specs.Building.{as_objects}
use Rattle.imkl_population.specs.Values.{same_scalar, is_value_among, repeats_value}
use Rattle.imkl_population.specs.Population.{Population, pairs_of, pairs_below, holders_of, held_by, written_at}
use Rattle.imkl_population.proofs.Pairs.{holders_of-append}
use Rattle.ocl_base.proofs.ForAbove.{apart_push, same_test}
use Rattle.imkl_population.proofs.Twice.{same_scalar-sym}

-- a target more: the holder once more, or not
held_step : (b : Bool) (holder o t : ℕ) (vs : List Scalar) → (t == o) ≡ b → held_by holder o (scalar.Object t ∷ vs) ≡ (if b then holder ∷ held_by holder o vs else held_by holder o vs)
held_step true holder o t vs e = rw e refl
held_step false holder o t vs e = rw e refl

-- each holder that a list of targets gives is the one holder
held_all_by : (test : ℕ → Bool) (holder o t : ℕ) (vs : List Scalar) (b : Bool) → (t == o) ≡ b → test holder ≡ true → list_all test (held_by holder o vs) ≡ true → list_all test (held_by holder o (scalar.Object t ∷ vs)) ≡ true
held_all_by test holder o t vs true e h later = rw (held_step true holder o t vs e) (and_from (test holder) (list_all test (held_by holder o vs)) h later)
held_all_by test holder o t vs false e h later = rw (held_step false holder o t vs e) later

-- each holder that the targets of one object give passes a test that this object passes
pub held_all : (test : ℕ → Bool) (holder o : ℕ) (vs : List Scalar) → test holder ≡ true → list_all test (held_by holder o vs) ≡ true
held_all test holder o [] h = refl
held_all test holder o (scalar.Object t ∷ vs) h = held_all_by test holder o t vs (t == o) refl h (held_all test holder o vs h)
held_all test holder o (scalar.Bool b ∷ vs) h = held_all test holder o vs h
held_all test holder o (scalar.Int n ∷ vs) h = held_all test holder o vs h
held_all test holder o (scalar.Text s ∷ vs) h = held_all test holder o vs h
held_all test holder o (scalar.Literal e l ∷ vs) h = held_all test holder o vs h

-- each holder below n passes a test that each with targets passes
pub holders_all : (test : ℕ → Bool) (p : Population) (source o n : ℕ) → ((k : ℕ) → k < n → (written_at p k source ≡ []) ⊎ (test k ≡ true)) → list_all test (holders_of o (pairs_below p source n)) ≡ true
holders_all test p source o zero h = refl
holders_all test p source o (suc n) h =
    let here : list_all test (held_by n o (written_at p n source)) ≡ true =
    elim (h n (omega arith)) [
      | inl e ↦ rw e refl
      | inr t ↦ held_all test n o (written_at p n source) t
    ] in
    rw (holders_of-append o (pairs_below p source n) (pairs_of n (written_at p n source)))
    (list_all-append test (holders_of o (pairs_below p source n)) (held_by n o (written_at p n source)) ∙ rw (holders_all test p source o n (λ k lt. h k (omega arith)), here) refl)

-- ---- none stands twice

-- an object that isn't among the targets has no holder from them
none_held : (holder o : ℕ) (vs : List Scalar) → is_value_among vs (scalar.Object o) ≡ false → held_by holder o vs ≡ []
none_held holder o [] h = refl
none_held holder o (scalar.Object t ∷ vs) h =
    let parts = or_parts (o == t) (is_value_among vs (scalar.Object o)) h in
    let apart : (t == o) ≡ false = same_test (t == o) false (λ e. absurd (false≢true (sym parts.0 ∙ eq-eqb o t (sym (eqb-true t o e))))) (λ e. absurd (false≢true e)) in
    held_step false holder o t vs apart ∙ none_held holder o vs parts.1
none_held holder o (scalar.Bool b ∷ vs) h = none_held holder o vs h
none_held holder o (scalar.Int n ∷ vs) h = none_held holder o vs h
none_held holder o (scalar.Text s ∷ vs) h = none_held holder o vs h
none_held holder o (scalar.Literal e l ∷ vs) h = none_held holder o vs h

-- of targets that differ at most one is the object
held_once_by : (holder o t : ℕ) (vs : List Scalar) (b : Bool) → (t == o) ≡ b → is_value_among vs (scalar.Object t) ≡ false → (held_by holder o vs ≡ []) ⊎ (held_by holder o vs ≡ holder ∷ [])
    → (held_by holder o (scalar.Object t ∷ vs) ≡ []) ⊎ (held_by holder o (scalar.Object t ∷ vs) ≡ holder ∷ [])
held_once_by holder o t vs true e apart later =
    let same : t ≡ o = eqb-true t o e in
    inr (held_step true holder o t vs e ∙ ap (λ (l : List ℕ). holder ∷ l) (none_held holder o vs (subst (λ (n : ℕ). is_value_among vs (scalar.Object n) ≡ false) same apart)))
held_once_by holder o t vs false e apart later =
    elim later [
      | inl h ↦ inl (held_step false holder o t vs e ∙ h)
      | inr h ↦ inr (held_step false holder o t vs e ∙ h)
    ]

held_once : (holder o : ℕ) (vs : List Scalar) → repeats_value vs ≡ false → (held_by holder o vs ≡ []) ⊎ (held_by holder o vs ≡ holder ∷ [])
held_once holder o [] h = inl refl
held_once holder o (scalar.Object t ∷ vs) h =
    let parts = or_parts (is_value_among vs (scalar.Object t)) (repeats_value vs) h in
    held_once_by holder o t vs (t == o) refl parts.0 (held_once holder o vs parts.1)
held_once holder o (scalar.Bool b ∷ vs) h = held_once holder o vs (or_parts (is_value_among vs (scalar.Bool b)) (repeats_value vs) h).1
held_once holder o (scalar.Int n ∷ vs) h = held_once holder o vs (or_parts (is_value_among vs (scalar.Int n)) (repeats_value vs) h).1
held_once holder o (scalar.Text s ∷ vs) h = held_once holder o vs (or_parts (is_value_among vs (scalar.Text s)) (repeats_value vs) h).1
held_once holder o (scalar.Literal e l ∷ vs) h = held_once holder o vs (or_parts (is_value_among vs (scalar.Literal e l)) (repeats_value vs) h).1

-- a number above all holders is none of them
above_all : (n : ℕ) (xs : List ℕ) → list_all (λ x. nat_lt x n) xs ≡ true → is_value_among (as_objects xs) (scalar.Object n) ≡ false
above_all n [] h = refl
above_all n (x ∷ xs) h =
    let parts = and_parts (nat_lt x n) (list_all (λ y. nat_lt y n) xs) h in
    let less : x < n = ltb-true x n parts.0 in
    or_from (n == x) (is_value_among (as_objects xs) (scalar.Object n)) (ne_eqb n x (λ e. absurd (omega arith))) (above_all n xs parts.1)

joined : (n : ℕ) (xs ys : List ℕ) → repeats_value (as_objects xs) ≡ false → list_all (λ x. nat_lt x n) xs ≡ true → (ys ≡ []) ⊎ (ys ≡ n ∷ []) → repeats_value (as_objects (xs ++ ys)) ≡ false
joined n xs ys apart below last =
    elim last [
      | inl e ↦ rw (e, append-nil xs) apart
      | inr e ↦ rw (e, map-append scalar.Object xs (n ∷ [])) (apart_push same_scalar same_scalar-sym (as_objects xs) (scalar.Object n) apart (above_all n xs below))
    ]

-- the holders of an object differ where each holder's targets differ
pub holders_apart : (p : Population) (source o n : ℕ) → ((k : ℕ) → k < n → repeats_value (written_at p k source) ≡ false) → repeats_value (as_objects (holders_of o (pairs_below p source n))) ≡ false
holders_apart p source o zero h = refl
holders_apart p source o (suc n) h =
    let earlier : List ℕ = holders_of o (pairs_below p source n) in
    let below : list_all (λ x. nat_lt x n) earlier ≡ true = holders_all (λ x. nat_lt x n) p source o n (λ k lt. inr (lt-ltb k n lt)) in
    rw (holders_of-append o (pairs_below p source n) (pairs_of n (written_at p n source)))
    (joined n earlier (held_by n o (written_at p n source)) (holders_apart p source o n (λ k lt. h k (omega arith))) below (held_once n o (written_at p n source) (h n (omega arith))))
