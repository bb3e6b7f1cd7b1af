-- Items that are taken off a stack one after the other.
use Rattle.std.proofs.Common.{◌≡◌, ℕ, zero, suc, ◌+◌, List, [], ◌∷◌, drop, Option, Some, None, refl, sym, ap, ◌∙◌, arith}
use Rattle.std.specs.Option.{MatchOption}

-- one is dropped after others
one_more : {A : Type 0} (n : ℕ) (xs : List A) → drop (suc n) xs ≡ drop 1 (drop n xs)
one_more zero xs = refl
one_more (suc n) [] = refl
one_more (suc n) (x ∷ xs) = one_more n xs

-- after one more is taken off a stack from which n were taken, n + 1 are dropped
pub one_more_popped : {A : Type 0} (n : ℕ) (xs old new : List A) (r : Option A) → old ≡ drop n xs → MatchOption r ((old ≡ []) × (new ≡ [])) (λ x. old ≡ x ∷ new) → new ≡ drop (n + 1) xs
one_more_popped {A} n xs old new r before taken =
    let next : suc n ≡ n + 1 = omega arith in
    by_taken r taken ∙ ap (drop 1) before ∙ sym (one_more n xs) ∙ ap (λ m. drop m xs) next
  where
    by_taken : (r : Option A) → MatchOption r ((old ≡ []) × (new ≡ [])) (λ x. old ≡ x ∷ new) → new ≡ drop 1 old
    by_taken None t = t.1 ∙ ap (drop 1) (sym t.0)
    by_taken (Some x) t = ap (drop 1) (sym t)
