-- The items of a stack by their numbers from below.
use Rattle.std.proofs.Common.{◌≡◌, ℕ, zero, suc, ◌<◌, ◌≤◌, false, List, [], ◌∷◌, ◌++◌, length, drop, reverse, true, ◌-◌, get_or, Some, None, refl, sym, ap, ◌∙◌, arith, length-append}
use Rattle.std.specs.Prelude.{slice_get, ◌==◌, if◌then◌else◌}
use Rattle.std.proofs.lemmas.Bool.{ne_eqb, eq-eqb}
use Rattle.std.proofs.lemmas.List.{reverse-append, length-reverse}
use Rattle.std.proofs.lemmas.Option.{slice_get_read, slice_get_past}
use Rattle.std.proofs.Math.Dec.{eqb-suc-suc}
use Rattle.ocl_base.specs.Lists.{variable_at}

lowest : {A : Type 0} (l : List A) (x : A) → variable_at (l ++ x ∷ []) 0 ≡ Some x
lowest [] x = refl
lowest (v ∷ l) x =
    let e : (0 == length (l ++ x ∷ [])) ≡ false = ne_eqb 0 (length (l ++ x ∷ [])) (λ h. absurd (omega (arith, length-append l (x ∷ []), h))) in
    rw e (lowest l x)

higher : {A : Type 0} (l : List A) (x : A) (n : ℕ) → variable_at (l ++ x ∷ []) (suc n) ≡ variable_at l n
higher [] x n =
    let e : (suc n == 0) ≡ false = ne_eqb (suc n) 0 (λ h. absurd (omega arith)) in
    rw e refl
higher (v ∷ l) x n =
    let e : length (l ++ x ∷ []) ≡ suc (length l) = omega (arith, length-append l (x ∷ [])) in
    rw (e, eqb-suc-suc, higher l x n) refl

reverse_cons : {A : Type 0} (x : A) (xs : List A) → reverse (x ∷ xs) ≡ reverse xs ++ x ∷ []
reverse_cons x xs = reverse-append (x ∷ []) xs

from_below : {A : Type 0} (xs : List A) (n : ℕ) → variable_at (reverse xs) n ≡ slice_get xs n
from_below [] n = refl
from_below (x ∷ xs) zero = ap (λ l. variable_at l 0) (reverse_cons x xs) ∙ lowest (reverse xs) x
from_below (x ∷ xs) (suc n) = ap (λ l. variable_at l (suc n)) (reverse_cons x xs) ∙ higher (reverse xs) x n ∙ from_below xs n

-- an item that is there
pub at_bottom : {A : Type 0} (xs l : List A) (m n : ℕ) (x : A) → m ≡ length xs → reverse xs ≡ l → n < m → x ≡ get_or xs n x → Some x ≡ variable_at l n
at_bottom xs l m n x len same lt is =
    sym (slice_get_read xs m n x len lt is) ∙ sym (from_below xs n) ∙ ap (λ k. variable_at k n) same

-- a number past the items
pub past_bottom : {A : Type 0} (xs l : List A) (m n : ℕ) → m ≡ length xs → reverse xs ≡ l → m ≤ n → None ≡ variable_at l n
past_bottom xs l m n len same le =
    sym (slice_get_past xs n (omega arith)) ∙ sym (from_below xs n) ∙ ap (λ k. variable_at k n) same

-- an item with n items above it
above : {A : Type 0} (l : List A) (n : ℕ) (x : A) → n < length l → variable_at l (length l - 1 - n) ≡ Some x → (below : List A) × (drop n l ≡ x ∷ below)
above [] n x lt h = absurd (omega (arith, lt))
above (k ∷ l) zero x lt h =
    let e : (length (k ∷ l) - 1 - 0 == length l) ≡ true = ap (λ m. m == length l) (let m : length (k ∷ l) - 1 - 0 ≡ length l = omega arith in m) ∙ eq-eqb (length l) (length l) refl in
    let same : Some k ≡ Some x = sym (ap (λ b. if b then Some k else variable_at l (length (k ∷ l) - 1 - 0)) e) ∙ h in
    let is : k ≡ x = cc in
    (l, ap (λ y. y ∷ l) is)
above (k ∷ l) (suc n) x lt h =
    let m : length (k ∷ l) - 1 - suc n ≡ length l - 1 - n = omega arith in
    let e : (length (k ∷ l) - 1 - suc n == length l) ≡ false = ne_eqb (length (k ∷ l) - 1 - suc n) (length l) (λ q. absurd (omega (arith, q, lt))) in
    above l n x (omega (arith, lt)) (ap (variable_at l) (sym m) ∙ sym (ap (λ b. if b then Some k else variable_at l (length (k ∷ l) - 1 - suc n)) e) ∙ h)

none_above : {A : Type 0} (l : List A) (n : ℕ) → length l ≤ n → drop n l ≡ []
none_above [] zero le = refl
none_above [] (suc n) le = refl
none_above (k ∷ l) zero le = absurd (omega (arith, le))
none_above (k ∷ l) (suc n) le = none_above l n (omega (arith, le))

-- an item that is there, by its number from above
pub at_top : {A : Type 0} (xs l : List A) (m k n : ℕ) (x : A) → m ≡ length xs → reverse xs ≡ l → n < m → k ≡ m - 1 - n → x ≡ get_or xs k x → (below : List A) × (drop n l ≡ x ∷ below)
at_top xs l m k n x len same lt at is =
    let many : length l ≡ m = sym (ap length same) ∙ length-reverse xs ∙ sym len in
    above l n x (omega (arith, lt, many)) (ap (variable_at l) (let e : length l - 1 - n ≡ k = omega (arith, many, at) in e) ∙ sym (at_bottom xs l m k x len same (omega (arith, lt, at)) is))

-- a number past the items
pub past_top : {A : Type 0} (xs l : List A) (m n : ℕ) → m ≡ length xs → reverse xs ≡ l → m ≤ n → drop n l ≡ []
past_top xs l m n len same le =
    none_above l n (omega (arith, le, len, ap length same, length-reverse xs))
