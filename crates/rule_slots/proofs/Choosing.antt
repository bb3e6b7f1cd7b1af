-- Items of a list that are chosen, so that each is kept or is the same as one before it.
use Rattle.std.proofs.Common.{◌≡◌, ℕ, zero, suc, ◌+◌, ◌<◌, Bool, true, false, List, [], ◌∷◌, ◌++◌, take, Some, refl, sym, ap, ◌∙◌, arith}
use Rattle.std.specs.Prelude.{◌||◌, slice_get}
use Rattle.std.specs.List.{list_any}
use Rattle.ocl_base.specs.Lists.{is_among, repeats}
use Rattle.rule_slots.specs.Sorted.{IsSameBefore}
use Rattle.rule_slots.proofs.Loops.{take_next}
use Rattle.rule_slots.proofs.InOrder.{or_true, or_false_left, or_false_right, any_at}
use Rattle.rule_slots.proofs.Moved.{any_alike}

-- what stands in a list before an index stands in its front
get_front : {A : Type 0} (xs : List A) (i k : ℕ) (x : A) → k < i → slice_get xs k ≡ Some x → slice_get (take i xs) k ≡ Some x
get_front [] i k x lt e = cc
get_front (y ∷ ys) zero k x lt e = absurd (omega (arith, lt))
get_front (y ∷ ys) (suc i) zero x lt e = e
get_front (y ∷ ys) (suc i) (suc k) x lt e = get_front ys i k x (omega (arith, lt)) e

some_same : {A : Type 0} (xs : List A) (k : ℕ) (x y : A) → slice_get xs k ≡ Some x → slice_get xs k ≡ Some y → x ≡ y
some_same xs k x y e f = cc

module _ {A : Type 0} (same : A → A → Bool) (back : (x y : A) → same x y ≡ same y x) (alike : (x y z : A) → same x y ≡ true → same x z ≡ same y z) where
  among_join : (xs : List A) (x z : A) → is_among same (xs ++ x ∷ []) z ≡ (is_among same xs z || same z x)
  among_join [] x z = or_none (same z x)
    where
      or_none : (b : Bool) → (b || false) ≡ b
      or_none true = refl
      or_none false = refl
  among_join (y ∷ ys) x z = ap (λ b. same z y || b) (among_join ys x z) ∙ joined (same z y) (is_among same ys z) (same z x)
    where
      joined : (a b c : Bool) → (a || (b || c)) ≡ ((a || b) || c)
      joined true b c = refl
      joined false b c = refl

  either : (a b : Bool) → (a || b) ≡ true → (P : Type 0) → (a ≡ true → P) → (b ≡ true → P) → P
  either true b e P f g = f refl
  either false b e P f g = g e

  -- ---- one item more, of a list xs at an index i; t are those that were taken before

  module _ (xs t : List A) (i : ℕ) (x : A) (here : slice_get xs i ≡ Some x) (known : (z : A) → is_among same (take i xs) z ≡ true → is_among same t z ≡ true) where
    passed : (z : A) → is_among same (take (i + 1) xs) z ≡ true → (is_among same (take i xs) z || same z x) ≡ true
    passed z e = sym (ap (λ l. is_among same l z) (take_next xs i x here) ∙ among_join (take i xs) x z) ∙ e

    -- it is the same as one before it
    pub known_before : (k : ℕ) → IsSameBefore same xs i k → is_among same t x ≡ true
    known_before k b =
        let q = some_same xs i b.here x b.here_is here in
        known x (any_at (same x) (take i xs) k b.there (get_front xs i k b.there b.before b.there_is) (ap (λ y. same y b.there) (sym q) ∙ b.alike))

    pub left_out : is_among same t x ≡ true → (z : A) → is_among same (take (i + 1) xs) z ≡ true → is_among same t z ≡ true
    left_out m z e = either (is_among same (take i xs) z) (same z x) (passed z e) (is_among same t z ≡ true) (known z) (λ s. any_alike (same z) (same x) (λ y. alike z x y s) t ∙ m)

    -- it is taken
    pub taken_too : (z : A) → is_among same (take (i + 1) xs) z ≡ true → is_among same (t ++ x ∷ []) z ≡ true
    taken_too z e =
        among_join t x z
        ∙ either (is_among same (take i xs) z) (same z x) (passed z e) ((is_among same t z || same z x) ≡ true) (λ f. ap (λ b. b || same z x) (known z f)) (λ s. ap (λ b. is_among same t z || b) s ∙ or_true (is_among same t z))

  -- where none stands twice in a longer list, none does in the list, nor does the last stand there
  pub none_repeats : (xs : List A) (x : A) → repeats same (xs ++ x ∷ []) ≡ false → (repeats same xs ≡ false) × (is_among same xs x ≡ false)
  none_repeats [] x e = (refl, refl)
  none_repeats (y ∷ ys) x e =
      let rest = none_repeats ys x (or_false_right (is_among same (ys ++ x ∷ []) y) (repeats same (ys ++ x ∷ [])) e) in
      let head = sym (among_join ys x y) ∙ or_false_left (is_among same (ys ++ x ∷ []) y) (repeats same (ys ++ x ∷ [])) e in
      (ap (λ b. b || repeats same ys) (or_false_left (is_among same ys y) (same y x) head) ∙ rest.0, ap (λ b. b || list_any (same x) ys) (back x y ∙ or_false_right (is_among same ys y) (same y x) head) ∙ rest.1)
