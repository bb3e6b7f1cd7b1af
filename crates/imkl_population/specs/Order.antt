-- Lists in order, and what the first of some numbers has.
use Rattle.std.specs.Prelude.{◌≡◌, ℕ, Bool, true, List, [], ◌∷◌, Option, None}
use Rattle.std.specs.declared.cmp.Ordering.{Ordering}
use Rattle.std.specs.Option.{option_or}
use Rattle.std.specs.List.{Any, Contains}
use Rattle.std.specs.List.Sorted.{IsStrictlySortedBy}

-- the elements of a list ascend in another one, each once
pub record AreInOrder {X : Type 0} (compare : X → X → Ordering) (equals : X → X → Bool) (xs ordered : List X) : Type 0 where
  pub ascend : IsStrictlySortedBy compare ordered
  pub kept : (x : X) → Contains xs x → Any (λ y. equals x y ≡ true) ordered
  pub were : (x : X) → Contains ordered x → Contains xs x

-- what the first of some numbers has that has something
abbrev pub first_in : {A : Type 0} → (ℕ → Option A) → List ℕ → Option A
first_in g [] = None
first_in g (x ∷ xs) = option_or (g x) (first_in g xs)
