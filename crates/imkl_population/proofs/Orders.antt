-- Numbers in order: the places that pass a test, and the numbers of a list.
use Rattle.std.proofs.Common.{◌≡◌, ℕ, zero, suc, ◌+◌, ◌<◌, append_assoc, ◌==◌, Bool, true, false, ◌||◌, List, [], ◌∷◌, ◌++◌, refl, sym, ap, subst, ◌∙◌, eqb, arith, All, Less, if◌then◌else◌, inl, inr}
use Rattle.std.specs.List.{AllByRecursion, Contains, list_any}
use Rattle.std.specs.List.Sorted.{IsStrictlySortedBy}
use Rattle.std.specs.Ordering.{nat_cmp}
use Rattle.std.specs.Cmp.{nat_cmp_is, IsEquivalence}
use Rattle.std.specs.BTreeMap.{is_at}
use Rattle.std.specs.BTreeSet.{BTreeSet}
use Rattle.std.proofs.lemmas.Bool.{eq-eqb, eqb-true, ne_eqb, or_from}
use Rattle.std.proofs.lemmas.Bool.Decides.{leb_tells}
use Rattle.std.proofs.Math.Bool.{or-false, or_comm}
use Rattle.std.proofs.lemmas.List.{append-nil}
use Rattle.std.specs.FinMap.{nat_cmp-IsAntisymmetric}
use Rattle.std.proofs.lemmas.List.Folds.{list_any-append, list_any-from_Any}
use Rattle.std.proofs.lemmas.Map.Lookups.{btree_set_from_contains}
use Rattle.std.proofs.lemmas.Map.Views.{Contains-from_any, list_any-from_Contains}
use Rattle.std.proofs.lemmas.List.Elements.{All-append, All-contains, All-weaker}
use Rattle.std.proofs.lemmas.Cmp.{nat_cmp_total}
use Rattle.ocl_base.proofs.ForAbove.{same_test}
use Rattle.ocl_base.specs.Numbers.{places}
use Rattle.imkl_population.specs.Order.{AreInOrder}
use Rattle.imkl_population.specs.Required.{is_one_of}
use Rattle.imkl_population.proofs.Encoded.{is_eq-nat_cmp}
use Rattle.imkl_population.proofs.Places.{Passes, places-pass}

-- ---- places ascend

push_all : (P : ℕ → Type 0) (xs : List ℕ) (k : ℕ) → AllByRecursion P xs → P k → AllByRecursion P (xs ++ k ∷ [])
push_all P [] k all here = (here, tt)
push_all P (x ∷ xs) k all here = (all.0, push_all P xs k all.1 here)

push_sorted : (xs : List ℕ) (k : ℕ) → IsStrictlySortedBy nat_cmp xs → AllByRecursion (λ x. x < k) xs → IsStrictlySortedBy nat_cmp (xs ++ k ∷ [])
unfolding IsStrictlySortedBy
push_sorted [] k sorted below = (tt, tt)
push_sorted (x ∷ xs) k sorted below = (push_all (λ y. nat_cmp x y ≡ Less) xs k sorted.0 (sym (nat_cmp_is x k Less below.0)), push_sorted xs k sorted.1 below.1)

raise : (n : ℕ) (xs : List ℕ) → AllByRecursion (λ x. x < n) xs → AllByRecursion (λ x. x < suc n) xs
raise n [] all = tt
raise n (x ∷ xs) all = (omega (arith, all.0), raise n xs all.1)

below_by : (p : ℕ → Bool) (n : ℕ) (b : Bool) → AllByRecursion (λ x. x < suc n) (places p n) → AllByRecursion (λ x. x < suc n) (places p n ++ (if b then n ∷ [] else []))
below_by p n true all = push_all (λ x. x < suc n) (places p n) n all (omega arith)
below_by p n false all = subst (AllByRecursion (λ x. x < suc n)) (sym (append-nil (places p n))) all

places-below : (p : ℕ → Bool) (n : ℕ) → AllByRecursion (λ x. x < n) (places p n)
places-below p zero = tt
places-below p (suc n) = below_by p n (p n) (raise n (places p n) (places-below p n))

sorted_by : (p : ℕ → Bool) (n : ℕ) (b : Bool) → IsStrictlySortedBy nat_cmp (places p n) → IsStrictlySortedBy nat_cmp (places p n ++ (if b then n ∷ [] else []))
sorted_by p n true sorted = push_sorted (places p n) n sorted (places-below p n)
sorted_by p n false sorted = subst (IsStrictlySortedBy nat_cmp) (sym (append-nil (places p n))) sorted

-- the places that pass a test ascend
pub places-sorted : (p : ℕ → Bool) (n : ℕ) → IsStrictlySortedBy nat_cmp (places p n)
unfolding IsStrictlySortedBy
places-sorted p zero = tt
places-sorted p (suc n) = sorted_by p n (p n) (places-sorted p n)

-- ---- what is among places

-- a number more, or none
pub one_of-push : (xs : List ℕ) (k f : ℕ) (b : Bool) → is_one_of (xs ++ (if b then k ∷ [] else [])) f ≡ (is_one_of xs f || (if b then f == k else false))
one_of-push xs k f true = list_any-append (λ g. f == g) xs (k ∷ []) ∙ ap (λ (b : Bool). is_one_of xs f || b) (or-false (f == k))
one_of-push xs k f false = ap (λ (l : List ℕ). is_one_of l f) (append-nil xs) ∙ sym (or-false (is_one_of xs f))

not_here : (xs : List ℕ) (k : ℕ) → AllByRecursion (λ x. x < k) xs → is_one_of xs k ≡ false
not_here [] k all = refl
not_here (x ∷ xs) k all = or_from (k == x) (is_one_of xs k) (ne_eqb k x (λ e. absurd (omega (arith, all.0, e)))) (not_here xs k all.1)

last_of : (p : ℕ → Bool) (n : ℕ) (b : Bool) → p n ≡ b → is_one_of (places p n ++ (if b then n ∷ [] else [])) n ≡ b
last_of p n true e = one_of-push (places p n) n n true ∙ rw (not_here (places p n) n (places-below p n), eq-eqb n n refl) refl
last_of p n false e = one_of-push (places p n) n n false ∙ rw (not_here (places p n) n (places-below p n)) refl

earlier_of : (xs : List ℕ) (k f : ℕ) (b : Bool) → f < k → is_one_of (xs ++ (if b then k ∷ [] else [])) f ≡ is_one_of xs f
earlier_of xs k f true lt = one_of-push xs k f true ∙ rw (ne_eqb f k (λ e. absurd (omega (arith, lt, e)))) (or-false (is_one_of xs f))
earlier_of xs k f false lt = one_of-push xs k f false ∙ or-false (is_one_of xs f)

-- a number below the bound is among the places where it passes
pub one_of-places : (p : ℕ → Bool) (n f : ℕ) → f < n → is_one_of (places p n) f ≡ p f
one_of-places p zero f lt = absurd (omega (arith, lt))
one_of-places p (suc n) f lt =
    elim (leb_tells n f) [
      | inl le ↦
          let same : n ≡ f = omega (arith, le, lt) in
          subst (λ (k : ℕ). is_one_of (places p n ++ (if p n then n ∷ [] else [])) k ≡ p k) same (last_of p n (p n) refl)
      | inr less ↦ earlier_of (places p n) n f (p n) less.1 ∙ one_of-places p n f less.1
    ]

-- tests that agree below the bound pass at the same places
pub places-same : (p q : ℕ → Bool) (n : ℕ) → ((k : ℕ) → k < n → p k ≡ q k) → places p n ≡ places q n
places-same p q zero h = refl
places-same p q (suc n) h = rw (places-same p q n (λ k lt. h k (omega arith)), h n (omega arith)) refl

-- a number more, if it passes
pub places-more : (p : ℕ → Bool) (xs ys zs : List ℕ) (n : ℕ) (b : Bool) → p n ≡ b → ys ≡ xs ++ places p n → zs ≡ ys ++ (if b then n ∷ [] else []) → zs ≡ xs ++ places p (n + 1)
places-more p xs ys zs n b is before next =
    let more : n + 1 ≡ suc n = omega arith in
    next
    ∙ ap (λ (l : List ℕ). l ++ (if b then n ∷ [] else [])) before
    ∙ append_assoc xs (places p n) (if b then n ∷ [] else [])
    ∙ ap (λ (c : Bool). xs ++ (places p n ++ (if c then n ∷ [] else []))) (sym is)
    ∙ ap (λ (k : ℕ). xs ++ places p k) (sym more)

-- ---- a list in order

eqb_laws : IsEquivalence eqb
eqb_laws = record {
  refl = λ x. eq-eqb x x refl;
  symm = λ x y. same_test (eqb x y) (eqb y x) (λ h. eq-eqb y x (sym (eqb-true x y h))) (λ h. eq-eqb x y (sym (eqb-true y x h)));
  congr = λ x y z h. rw (eqb-true x y h) refl;
}

-- a number that the test finds in a list stands in it
pub one_of-contains : (xs : List ℕ) (f : ℕ) → is_one_of xs f ≡ true → Contains xs f
one_of-contains xs f h = Contains-from_any eqb-true f xs h

contains-one_of : (xs : List ℕ) (f : ℕ) → Contains xs f → is_one_of xs f ≡ true
contains-one_of xs f h = list_any-from_Contains eqb_laws f xs h

-- the same, as a set reports it
abbrev set_of : List ℕ → BTreeSet ℕ
set_of xs = record { keys = xs }

reported : (xs : List ℕ) (f : ℕ) → list_any (is_at (nat_cmp f)) xs ≡ is_one_of xs f
reported [] f = refl
reported (x ∷ xs) f = rw (is_eq-nat_cmp f x, eqb_laws.symm x f, reported xs f) refl

-- numbers that ascend are the places of a test, where they are those below the bound that pass
ascending : (zs : List ℕ) (p : ℕ → Bool) (n : ℕ) → IsStrictlySortedBy nat_cmp zs → ((f : ℕ) → is_one_of zs f ≡ true → (f < n) × (p f ≡ true)) → ((f : ℕ) → f < n → p f ≡ true → is_one_of zs f ≡ true) → zs ≡ places p n
ascending zs p n sorted each all =
    let same : (f : ℕ) → is_one_of zs f ≡ is_one_of (places p n) f = λ f.
    same_test (is_one_of zs f) (is_one_of (places p n) f)
    (λ h. one_of-places p n f (each f h).0 ∙ (each f h).1)
    (λ h.
    let passes : Passes p n f = All-contains (Passes p n) (places p n) f (places-pass p n) (one_of-contains (places p n) f h) in
    all f passes.0 passes.1) in
    btree_set_from_contains nat_cmp_total (set_of zs) (set_of (places p n)) sorted (places-sorted p n) (λ f. reported zs f ∙ same f ∙ sym (reported (places p n) f)) nat_cmp-IsAntisymmetric

-- the numbers of a list, in order, are the places that are among them
pub ordered : (xs zs : List ℕ) → AreInOrder nat_cmp eqb xs zs → (n : ℕ) → All (λ f. f < n) xs → zs ≡ places (is_one_of xs) n
ordered xs zs order n small =
    ascending zs (is_one_of xs) n order.ascend
    (λ f h. let there : Contains xs f = order.were f (one_of-contains zs f h) in (All-contains (λ g. g < n) xs f small there, contains-one_of xs f there))
    (λ f lt h. list_any-from_Any (λ g. f == g) zs (order.kept f (one_of-contains xs f h)))

-- places are below their bound
pub places-small : (p : ℕ → Bool) (n : ℕ) (xs : List ℕ) → xs ≡ places p n → All (λ f. f < n) xs
places-small p n xs are = subst (All (λ f. f < n)) (sym are) (All-weaker (Passes p n) (λ f. f < n) (λ f q. q.0) (places p n) (places-pass p n))

-- some numbers in order with those places that pass
pub ordered_with : (p : ℕ → Bool) (n : ℕ) (xs all zs : List ℕ) → All (λ f. f < n) xs → all ≡ xs ++ places p n → AreInOrder nat_cmp eqb all zs
    → zs ≡ places (λ f. p f || is_one_of xs f) n
ordered_with p n xs all zs small joined order =
    let passing : All (λ f. f < n) (places p n) = places-small p n (places p n) refl in
    let all_small : All (λ f. f < n) all = subst (All (λ f. f < n)) (sym joined) (All-append (λ f. f < n) xs (places p n) small passing) in
    ordered all zs order n all_small
    ∙ places-same (is_one_of all) (λ f. p f || is_one_of xs f) n
    (λ f lt. ap (λ (l : List ℕ). is_one_of l f) joined ∙ list_any-append (λ g. f == g) xs (places p n) ∙ ap (λ (b : Bool). is_one_of xs f || b) (one_of-places p n f lt) ∙ or_comm (is_one_of xs f) (p f))
