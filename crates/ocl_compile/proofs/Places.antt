-- What is looked up in a list has its place there, also when the list gets longer.
use Rattle.std.proofs.Common.{◌≡◌, ℕ, ◌+◌, Bool, true, false, cond, List, [], ◌∷◌, ◌++◌, length, Option, Some, None, position, refl, sym, ap, ◌∙◌, arith}
use Rattle.std.specs.List.{position_from}
use Rattle.std.proofs.lemmas.Iterator.Adapters.{position_from-zero}
use Rattle.ocl_compile.specs.NumbersView.{FindsPlaces}

-- the first of two that is there
abbrev or_else : Option ℕ → Option ℕ → Option ℕ
or_else (Some i) o = Some i
or_else None o = o

from_added : {A : Type 0} (p : A → Bool) (xs : List A) (x : A) (i : ℕ) → position_from p i (xs ++ x ∷ []) ≡ or_else (position_from p i xs) (cond (p x) (Some (i + length xs)) None)
from_added p [] x i = ap (λ (n : ℕ). cond (p x) (Some n) None) (omega arith)
from_added p (y ∷ ys) x i = by_test (p y) (from_added p ys x (i + 1))
  where
    by_test : (b : Bool) → position_from p (i + 1) (ys ++ x ∷ []) ≡ or_else (position_from p (i + 1) ys) (cond (p x) (Some (i + 1 + length ys)) None) → cond b (Some i) (position_from p (i + 1) (ys ++ x ∷ [])) ≡ or_else (cond b (Some i) (position_from p (i + 1) ys)) (cond (p x) (Some (i + length (y ∷ ys))) None)
    by_test true later = refl
    by_test false later =
        later ∙ ap (λ (n : ℕ). or_else (position_from p (i + 1) ys) (cond (p x) (Some n) None)) (omega arith)

-- the place in a list with one more is the place in the list, or else the last
position_added : {A : Type 0} (p : A → Bool) (xs : List A) (x : A) → position p (xs ++ x ∷ []) ≡ or_else (position p xs) (cond (p x) (Some (length xs)) None)
position_added p xs x =
    position_from-zero p (xs ++ x ∷ []) ∙ from_added p xs x 0
    ∙ ap (λ (n : ℕ). or_else (position_from p 0 xs) (cond (p x) (Some n) None)) (omega arith)
    ∙ ap (λ (o : Option ℕ). or_else o (cond (p x) (Some (length xs)) None)) (sym (position_from-zero p xs))

-- a test that tells equality answers the same both ways
swapped : {A : Type 0} (same : A → A → Bool) → ((x y : A) → same x y ≡ true → x ≡ y) → (x y : A) → same x y ≡ same y x
swapped {A} same decides x y = by_tests (same x y) (same y x) refl refl
  where
    turned : (z w : A) → z ≡ w → same z w ≡ same w z
    turned z w e = ap (λ (v : A). same z v) (sym e) ∙ ap (λ (v : A). same v z) e

    by_tests : (b c : Bool) → same x y ≡ b → same y x ≡ c → b ≡ c
    by_tests true true e f = refl
    by_tests false false e f = refl
    by_tests true false e f = sym e ∙ turned x y (decides x y e) ∙ f
    by_tests false true e f = sym e ∙ sym (turned y x (decides y x f)) ∙ f

-- A look-up that gives the places in a list and then learns the place of one that is added gives the places in the
-- longer list.
pub place_learned : {A : Type 0} (same : A → A → Bool) → ((x y : A) → same x y ≡ true → x ≡ y) → (xs : List A) (x : A) (find learned : A → Option ℕ)
    → FindsPlaces same xs find → position (same x) xs ≡ None → ((y : A) → learned y ≡ cond (same x y) (Some (length xs)) (find y)) → FindsPlaces same (xs ++ x ∷ []) learned
place_learned {A} same decides xs x find learned finds new learns y =
    learns y ∙ by_test (same x y) refl ∙ sym (position_added (same y) xs x)
  where
    by_test : (b : Bool) → same x y ≡ b → cond b (Some (length xs)) (find y) ≡ or_else (position (same y) xs) (cond (same y x) (Some (length xs)) None)
    by_test true is =
        let none = ap (λ (z : A). position (same z) xs) (sym (decides x y is)) ∙ new in
        sym (ap (λ (o : Option ℕ). or_else o (cond (same y x) (Some (length xs)) None)) none
        ∙ ap (λ (b : Bool). cond b (Some (length xs)) None) (swapped same decides y x ∙ is))
    by_test false is =
        finds y
        ∙ sym (or_none (position (same y) xs))
        ∙ ap (λ (b : Bool). or_else (position (same y) xs) (cond b (Some (length xs)) None)) (sym (swapped same decides y x ∙ is))
      where
        or_none : (o : Option ℕ) → or_else o None ≡ o
        or_none (Some i) = refl
        or_none None = refl
