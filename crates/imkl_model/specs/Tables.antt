-- Tables of marks.
use Rattle.std.specs.Prelude.{◌≡◌, ℕ, zero, suc, ◌<◌, ◌==◌, ◌/◌, ◌%◌, ◌++◌, ◌∷◌, Bool, false, List, [], length, All, slice_index_or}
use Rattle.std.specs.Int.{bit_at}

abbrev pub has_mark : List Bool → ℕ → Bool
has_mark row j = slice_index_or row j false

abbrev pub mark_at : List (List Bool) → ℕ → ℕ → Bool
mark_at rows i j = has_mark (slice_index_or rows i []) j

-- n rows of n marks
abbrev pub IsSquare : ℕ → List (List Bool) → Type 0
IsSquare n rows = (length rows ≡ n) × ((i : ℕ) → i < n → length (slice_index_or rows i []) ≡ n)

-- every number is below n
abbrev pub AreWithin : ℕ → List (List ℕ) → Type 0
AreWithin n rows = All (λ row. All (λ d. d < n) row) rows

-- number j is marked in words of 64 bits
abbrev pub is_marked : List ℕ → ℕ → Bool
is_marked words j = bit_at (slice_index_or words (j / 64) 0) (j % 64) == 1

-- the marks of the numbers below n
abbrev pub marks : List ℕ → ℕ → List Bool
marks words zero = []
marks words (suc n) = marks words n ++ is_marked words n ∷ []
