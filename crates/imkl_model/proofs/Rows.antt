-- The rows of a list of classes.
use Rattle.std.proofs.Common.{◌≡◌, ℕ, ◌<◌, List, [], length, map, get_or, sym, ap, ◌∙◌, subst, All}
use Rattle.std.proofs.lemmas.List.{get_or-map, length-map}
use Rattle.imkl_model.specs.Tables.{AreWithin}

-- the row at a place is that of the element there
pub row_is : {X : Type 0} (f : X → List ℕ) (xs : List X) (i : ℕ) (x : X) → i < length xs → x ≡ get_or xs i x → get_or (map f xs) i [] ≡ f x
row_is f xs i x lt is = get_or-map f xs i x [] lt ∙ ap f (sym is)

-- where all rows are within n, so is the row of each element
pub row_within : {X : Type 0} (n : ℕ) (f : X → List ℕ) (xs : List X) (i : ℕ) (x : X) → i < length xs → x ≡ get_or xs i x → AreWithin n (map f xs) → All (λ d. d < n) (f x)
row_within n f xs i x lt is h =
    let inside : i < length (map f xs) = rw (length-map xs f) lt in
    subst (λ (row : List ℕ). All (λ d. d < n) row) (row_is f xs i x lt is) (h i [] inside)
