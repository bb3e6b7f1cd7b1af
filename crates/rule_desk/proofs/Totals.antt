-- The greatest total of the first of some charges that is at most a number.
use Rattle.std.proofs.Common.{◌≡◌, ℕ, zero, suc, ◌+◌, ◌-◌, ◌<◌, ◌≤◌, List, [], ◌∷◌, ◌++◌, map, take, sum, refl, ap, ◌∙◌, arith, inl, inr, if◌then◌else◌, Some}
use Rattle.std.specs.Prelude.{slice_get}
use Rattle.std.specs.List.{flat_map}
use Rattle.std.proofs.lemmas.Bool.Decides.{leb_tells}
use Rattle.std.proofs.lemmas.List.Sums.{sum_by-cons, sum_by-append}
use Rattle.rule_desk.specs.Job.{greatest_total}

pub sum_first : (c : ℕ) (cs : List ℕ) → sum (c ∷ cs) ≡ c + sum cs
sum_first c cs = sum_by-cons (λ x. x) c cs

-- a charge that isn't paid ends it
pub total_none : (c : ℕ) (cs : List ℕ) (t : ℕ) → t < c → greatest_total (c ∷ cs) t ≡ 0
total_none c cs t l =
    elim (leb_tells c t) [
      | inl p ↦ absurd (omega (arith, p.1, l))
      | inr p ↦ ap (λ b. if b then c + greatest_total cs (t - c) else 0) p.0
    ]

-- a charge that is paid counts
pub total_first : (c : ℕ) (cs : List ℕ) (t : ℕ) → c ≤ t → greatest_total (c ∷ cs) t ≡ c + greatest_total cs (t - c)
total_first c cs t l =
    elim (leb_tells c t) [
      | inl p ↦ ap (λ b. if b then c + greatest_total cs (t - c) else 0) p.0
      | inr p ↦ absurd (omega (arith, p.1, l))
    ]

-- where all before is paid
pub total_after : (xs ys : List ℕ) (t : ℕ) → sum xs ≤ t → greatest_total (xs ++ ys) t ≡ sum xs + greatest_total ys (t - sum xs)
total_after [] ys t l =
    let left : t ≡ t - 0 = omega arith in
    let same : greatest_total ys t ≡ greatest_total ys (t - 0) = ap (greatest_total ys) left in
    omega (arith, same)
total_after (x ∷ xs) ys t l =
    let first = sum_first x xs in
    let rest = total_after xs ys (t - x) (omega (arith, l, first)) in
    let left : t - x - sum xs ≡ t - sum (x ∷ xs) = omega (arith, first) in
    let same = ap (greatest_total ys) left in
    omega (arith, total_first x (xs ++ ys) t (omega (arith, l, first)), rest, same, first)

-- it is at most the total of all
pub total_at_most : (cs : List ℕ) (t : ℕ) → greatest_total cs t ≤ sum cs
total_at_most [] t = omega arith
total_at_most (c ∷ cs) t =
    elim (leb_tells c t) [
      | inl p ↦ omega (arith, total_first c cs t p.1, total_at_most cs (t - c), sum_first c cs)
      | inr p ↦ omega (arith, total_none c cs t p.1)
    ]

-- where all is paid, it is the total of all
pub total_all : (cs : List ℕ) (t : ℕ) → sum cs ≤ t → greatest_total cs t ≡ sum cs
total_all [] t l = refl
total_all (c ∷ cs) t l =
    let first = sum_first c cs in
    omega (arith, total_first c cs t (omega (arith, l, first)), total_all cs (t - c) (omega (arith, l, first)), first)

-- ---- charges that stand in groups

-- the total of all groups is that of the totals of each
pub sum_of_groups : {A : Type 0} (f : A → List ℕ) (qs : List A) → sum (flat_map f qs) ≡ sum (map (λ q. sum (f q)) qs)
sum_of_groups f [] = refl
sum_of_groups f (q ∷ qs) =
    omega (arith, sum_by-append (λ x. x) (f q) (flat_map f qs), sum_of_groups f qs, sum_first (sum (f q)) (map (λ x. sum (f x)) qs))

-- where all groups before one are paid, and of that one just w, whatever follows
pub total_in_group : {A : Type 0} (f : A → List ℕ) (qs : List A) (k : ℕ) (q : A) (t w : ℕ) → slice_get qs k ≡ Some q
    → sum (take k (map (λ x. sum (f x)) qs)) ≤ t
    → ((rest : List ℕ) → greatest_total (f q ++ rest) (t - sum (take k (map (λ x. sum (f x)) qs))) ≡ w)
    → greatest_total (flat_map f qs) t ≡ sum (take k (map (λ x. sum (f x)) qs)) + w
total_in_group f [] k q t w e l here = cc
total_in_group f (x ∷ qs) zero q t w e l here =
    let same : x ≡ q = cc in
    let all : greatest_total (f x ++ flat_map f qs) t ≡ greatest_total (f q ++ flat_map f qs) t = ap (λ y. greatest_total (f y ++ flat_map f qs) t) same in
    let left : t ≡ t - 0 = omega arith in
    let paid : greatest_total (f q ++ flat_map f qs) t ≡ greatest_total (f q ++ flat_map f qs) (t - 0) = ap (greatest_total (f q ++ flat_map f qs)) left in
    let some : greatest_total (f q ++ flat_map f qs) (t - 0) ≡ w = here (flat_map f qs) in
    omega (arith, all, paid, some)
total_in_group f (x ∷ qs) (suc k) q t w e l here =
    let costs = map (λ y. sum (f y)) qs in
    let first = sum_first (sum (f x)) (take k costs) in
    let left : t - sum (f x) - sum (take k costs) ≡ t - sum (sum (f x) ∷ take k costs) = omega (arith, first) in
    let rest = total_in_group f qs k q (t - sum (f x)) w e (omega (arith, l, first)) (λ more. ap (greatest_total (f q ++ more)) left ∙ here more) in
    omega (arith, total_after (f x) (flat_map f qs) t (omega (arith, l, first)), rest, first)
