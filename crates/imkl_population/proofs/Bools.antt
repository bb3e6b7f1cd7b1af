-- Tests of all elements.
use Rattle.std.proofs.Common.{◌≡◌, ◌==◌, suc, Bool, true, false, List, [], ◌∷◌, length, refl, arith}
use Rattle.std.specs.List.{list_all}
use Rattle.std.proofs.lemmas.Bool.{and_parts, and_from, ne_eqb}

-- a weaker test holds of all elements too
pub list_all-weaker : {X : Type 0} (p q : X → Bool) → ((x : X) → p x ≡ true → q x ≡ true) → (xs : List X) → list_all p xs ≡ true → list_all q xs ≡ true
list_all-weaker p q weaker [] h = refl
list_all-weaker p q weaker (x ∷ xs) h =
    let parts = and_parts (p x) (list_all p xs) h in
    and_from (q x) (list_all q xs) (weaker x parts.0) (list_all-weaker p q weaker xs parts.1)

-- where no element passes, all pass only of nothing
pub list_all-none : {X : Type 0} (p : X → Bool) → ((x : X) → p x ≡ false) → (xs : List X) → (length xs == 0) ≡ list_all p xs
list_all-none p none [] = refl
list_all-none p none (x ∷ xs) = rw (none x) (ne_eqb (suc (length xs)) 0 (λ e. absurd (omega arith)))
