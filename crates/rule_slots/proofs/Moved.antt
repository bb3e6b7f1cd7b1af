-- Lists whose items stand in another order: the same tests hold of them.
use Rattle.std.proofs.Common.{◌≡◌, ℕ, suc, ◌+◌, ◌≤◌, Bool, true, false, List, [], ◌∷◌, refl, sym, ap, ◌∙◌, arith}
use Rattle.std.specs.Prelude.{◌&&◌, ◌||◌, ◌==◌, not, nat_lt, if◌then◌else◌}
use Rattle.std.specs.List.{list_all, list_any, sum_by}
use Rattle.std.specs.List.Sorted.{IsPermutation}
use Rattle.std.proofs.lemmas.Bool.{ltb-true, ltb-false, lt-ltb, le-ltb}
use Rattle.std.proofs.lemmas.List.Sorted.{list_any-IsPermutation, sum_by-IsPermutation}
use Rattle.std.proofs.lemmas.List.Recursion.{is_sum_by}
use Rattle.ocl_base.specs.Lists.{is_among, repeats}
use Rattle.rule_slots.specs.declared.comparer.Quantifier.{Quantifier}
use Rattle.rule_slots.specs.Compared.{times_among, stand_as_often, same_unordered}
use Rattle.rule_slots.specs.Comparer.{admits}
use Rattle.rule_slots.proofs.InOrder.{always_alike}

-- ---- tests

pub any_alike : {A : Type 0} (f g : A → Bool) → ((x : A) → f x ≡ g x) → (xs : List A) → list_any f xs ≡ list_any g xs
any_alike f g h [] = refl
any_alike f g h (x ∷ xs) = ap (λ z. z || list_any f xs) (h x) ∙ ap (λ z. g x || z) (any_alike f g h xs)

-- all pass a test where none fails it
all_by_any : {A : Type 0} (p : A → Bool) (xs : List A) → list_all p xs ≡ not (list_any (λ x. not (p x)) xs)
all_by_any p [] = refl
all_by_any p (x ∷ xs) = by (p x) (all_by_any p xs)
  where
    by : (b : Bool) → list_all p xs ≡ not (list_any (λ y. not (p y)) xs) → (b && list_all p xs) ≡ not (not b || list_any (λ y. not (p y)) xs)
    by true e = e
    by false e = refl

-- each fails a test where none passes it
pub none_pass : {A : Type 0} (p : A → Bool) (xs : List A) → list_all (λ x. not (p x)) xs ≡ not (list_any p xs)
none_pass p [] = refl
none_pass p (x ∷ xs) = by (p x) (none_pass p xs)
  where
    by : (b : Bool) → list_all (λ y. not (p y)) xs ≡ not (list_any p xs) → (not b && list_all (λ y. not (p y)) xs) ≡ not (b || list_any p xs)
    by true e = refl
    by false e = e

all_moved : {A : Type 0} (p : A → Bool) (xs ys : List A) → IsPermutation xs ys → list_all p xs ≡ list_all p ys
all_moved p xs ys m = all_by_any p xs ∙ ap not (list_any-IsPermutation (λ x. not (p x)) xs ys m) ∙ sym (all_by_any p ys)

-- ---- by a test of equality

module _ {A : Type 0} (same : A → A → Bool) where
  -- an item is among both, or neither
  pub among_moved : (xs ys : List A) → IsPermutation xs ys → (z : A) → is_among same xs z ≡ is_among same ys z
  among_moved xs ys m z = list_any-IsPermutation (same z) xs ys m

  all_among_moved : (xs ys zs : List A) → IsPermutation xs ys → list_all (is_among same xs) zs ≡ list_all (is_among same ys) zs
  all_among_moved xs ys zs m = always_alike (is_among same xs) (is_among same ys) (among_moved xs ys m) zs

  -- all items of a list are among both, or none of them
  pub admitted_moved : (q : Quantifier) (xs ys us vs : List A) → IsPermutation xs ys → IsPermutation us vs → list_all (λ x. admits q (is_among same xs x)) us ≡ list_all (λ x. admits q (is_among same ys x)) vs
  admitted_moved q xs ys us vs m n =
      always_alike (λ x. admits q (is_among same xs x)) (λ x. admits q (is_among same ys x)) (λ z. ap (admits q) (among_moved xs ys m z)) us ∙ all_moved (λ x. admits q (is_among same ys x)) us vs n

  -- it stands in both as often
  abbrev once : A → A → ℕ
  once z x = if same x z then 1 else 0

  times_more : (z x : A) (xs : List A) → times_among same (x ∷ xs) z ≡ once z x + times_among same xs z
  times_more z x xs = by (same x z)
    where
      by : (b : Bool) → (if b then suc (times_among same xs z) else times_among same xs z) ≡ (if b then 1 else 0) + times_among same xs z
      by true = omega arith
      by false = omega arith

  times_as_sum : (xs : List A) (z : A) → times_among same xs z ≡ sum_by (once z) xs
  times_as_sum xs z = is_sum_by (λ ys. times_among same ys z) (once z) refl (times_more z) xs

  pub times_moved : (xs ys : List A) → IsPermutation xs ys → (z : A) → times_among same xs z ≡ times_among same ys z
  times_moved xs ys m z = times_as_sum xs z ∙ sym (sum_by-IsPermutation (once z) xs ys m) ∙ sym (times_as_sum ys z)

  often_moved : (xs ys us vs : List A) → IsPermutation xs ys → IsPermutation us vs → stand_as_often same xs us ≡ stand_as_often same ys vs
  often_moved xs ys us vs m n =
      let f = λ (z : A). times_among same xs z == times_among same us z in
      let g = λ (z : A). times_among same ys z == times_among same vs z in
      always_alike f g (λ z. ap (λ k. k == times_among same us z) (times_moved xs ys m z) ∙ ap (λ k. times_among same ys z == k) (times_moved us vs n z)) xs ∙ all_moved g xs ys m

  -- Sets and Bags of the same elements
  pub unordered_moved : (unique : Bool) (xs ys us vs : List A) → IsPermutation xs ys → IsPermutation us vs → same_unordered same unique xs us ≡ same_unordered same unique ys vs
  unordered_moved true xs ys us vs m n =
      ap (λ z. z && list_all (is_among same xs) us) (all_among_moved us vs xs n ∙ all_moved (is_among same vs) xs ys m) ∙ ap (λ z. list_all (is_among same vs) ys && z) (all_among_moved xs ys us m ∙ all_moved (is_among same ys) us vs n)
  unordered_moved false xs ys us vs m n = ap (λ z. z && stand_as_often same us xs) (often_moved xs ys us vs m n) ∙ ap (λ z. stand_as_often same ys vs && z) (often_moved us vs xs ys n m)

  -- ---- items that stand twice

  -- how many pairs of a list are the same, each item with each
  abbrev pairs : List A → List A → ℕ
  pairs [] ys = 0
  pairs (x ∷ xs) ys = times_among same ys x + pairs xs ys

  -- and each with itself
  abbrev alone : List A → ℕ
  alone [] = 0
  alone (x ∷ xs) = once x x + alone xs

  pairs_moved : (xs ys : List A) → IsPermutation xs ys → pairs xs xs ≡ pairs ys ys
  pairs_moved xs ys m =
      let as_sum = λ (us : List A) (vs : List A). is_sum_by (λ zs. pairs zs vs) (λ z. times_among same vs z) refl (λ x zs. refl) us in
      pairs_alike xs ∙ as_sum xs ys ∙ sym (sum_by-IsPermutation (λ z. times_among same ys z) xs ys m) ∙ sym (as_sum ys ys)
    where
      pairs_alike : (us : List A) → pairs us xs ≡ pairs us ys
      pairs_alike [] = refl
      pairs_alike (u ∷ us) = omega (arith, times_moved xs ys m u, pairs_alike us)

  alone_moved : (xs ys : List A) → IsPermutation xs ys → alone xs ≡ alone ys
  alone_moved xs ys m =
      let as_sum = λ (us : List A). is_sum_by alone (λ z. once z z) refl (λ x zs. refl) us in
      as_sum xs ∙ sym (sum_by-IsPermutation (λ z. once z z) xs ys m) ∙ sym (as_sum ys)

  module _ (back : (x y : A) → same x y ≡ same y x) where
    turned : (x y : A) → once x y ≡ once y x
    turned x y = let one : ℕ = 1 in let none : ℕ = 0 in ap (λ b. if b then one else none) (back y x)

    -- a head is the same as so many behind it
    with_head : (x : A) (us : List A) → (ys : List A) → pairs us (x ∷ ys) ≡ times_among same us x + pairs us ys
    with_head x [] ys = omega arith
    with_head x (u ∷ us) ys = omega (arith, with_head x us ys, times_more u x ys, times_more x u us, turned x u)

    pairs_more : (x : A) (xs : List A) → pairs (x ∷ xs) (x ∷ xs) ≡ once x x + (times_among same xs x + (times_among same xs x + pairs xs xs))
    pairs_more x xs = omega (arith, times_more x x xs, with_head x xs xs)

    -- an item is among those that it is the same as
    among_counted : (x : A) (xs : List A) → is_among same xs x ≡ nat_lt 0 (times_among same xs x)
    among_counted x [] = refl
    among_counted x (y ∷ ys) = ap (λ b. b || list_any (same x) ys) (back x y) ∙ by (same y x) (among_counted x ys)
      where
        by : (b : Bool) → is_among same ys x ≡ nat_lt 0 (times_among same ys x) → (b || is_among same ys x) ≡ nat_lt 0 (if b then suc (times_among same ys x) else times_among same ys x)
        by true e = sym (lt-ltb 0 (suc (times_among same ys x)) (omega arith))
        by false e = e

    alone_within : (xs : List A) → alone xs ≤ pairs xs xs
    alone_within [] = omega arith
    alone_within (x ∷ xs) = omega (arith, alone_within xs, pairs_more x xs)

    repeats_counted : (xs : List A) → repeats same xs ≡ nat_lt (alone xs) (pairs xs xs)
    repeats_counted [] = refl
    repeats_counted (x ∷ xs) = ap (λ z. z || repeats same xs) (among_counted x xs) ∙ ap (λ z. nat_lt 0 (times_among same xs x) || z) (repeats_counted xs) ∙ joined (nat_lt 0 (times_among same xs x)) refl (nat_lt (alone xs) (pairs xs xs)) refl
      where
        joined : (a : Bool) → nat_lt 0 (times_among same xs x) ≡ a → (b : Bool) → nat_lt (alone xs) (pairs xs xs) ≡ b → (a || b) ≡ nat_lt (alone (x ∷ xs)) (pairs (x ∷ xs) (x ∷ xs))
        joined true e b f = sym (lt-ltb _ _ (omega (arith, ltb-true 0 (times_among same xs x) e, alone_within xs, pairs_more x xs)))
        joined false e true f = sym (lt-ltb _ _ (omega (arith, ltb-true (alone xs) (pairs xs xs) f, pairs_more x xs)))
        joined false e false f = sym (le-ltb _ _ (omega (arith, ltb-false 0 (times_among same xs x) e, ltb-false (alone xs) (pairs xs xs) f, pairs_more x xs)))

    -- one stands twice in both, or in neither
    pub repeats_moved : (xs ys : List A) → IsPermutation xs ys → repeats same xs ≡ repeats same ys
    repeats_moved xs ys m = repeats_counted xs ∙ ap (λ n. nat_lt n (pairs xs xs)) (alone_moved xs ys m) ∙ ap (nat_lt (alone ys)) (pairs_moved xs ys m) ∙ sym (repeats_counted ys)
