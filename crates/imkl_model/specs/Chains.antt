-- Superclasses: chains of steps, and the test that decides them.
use Rattle.std.specs.Prelude.{◌≡◌, ℕ, suc, zero, ◌==◌, ◌||◌, ◌&&◌, Bool, true, false, List, [], length, slice_index_or}
use Rattle.std.specs.List.{list_any}

-- the direct superclasses of a class, where each class has a list of their numbers
abbrev pub supers_at : List (List ℕ) → ℕ → List ℕ
supers_at supers c = slice_index_or supers c []

-- d is a direct superclass of c
abbrev pub is_super : List (List ℕ) → ℕ → ℕ → Bool
is_super supers c d = list_any (λ e. e == d) (supers_at supers c)

-- a chain of n superclass steps
abbrev pub Chain : List (List ℕ) → ℕ → ℕ → ℕ → Type 0
Chain supers zero c d = c ≡ d
Chain supers (suc n) c d = (e : ℕ) × (is_super supers c e ≡ true) × Chain supers n e d

-- one or more steps
abbrev pub Reaches : List (List ℕ) → ℕ → ℕ → Type 0
Reaches supers c d = (n : ℕ) × Chain supers (suc n) c d

-- zero or more steps
abbrev pub IsOrReaches : List (List ℕ) → ℕ → ℕ → Type 0
IsOrReaches supers c d = (n : ℕ) × Chain supers n c d

-- a class reaches itself
abbrev pub IsCyclic : List (List ℕ) → Type 0
IsCyclic supers = (c : ℕ) × Reaches supers c c

-- The same as tests. One or more steps from c to d, with every class between them below k.
abbrev pub via : List (List ℕ) → ℕ → ℕ → ℕ → Bool
via supers zero c d = is_super supers c d
via supers (suc k) c d = via supers k c d || (via supers k c k && via supers k k d)

abbrev pub reaches : List (List ℕ) → ℕ → ℕ → Bool
reaches supers c d = via supers (length supers) c d

abbrev pub is_or_reaches : List (List ℕ) → ℕ → ℕ → Bool
is_or_reaches supers c d = c == d || reaches supers c d

-- some number below n passes
abbrev pub any_below : (ℕ → Bool) → ℕ → Bool
any_below p zero = false
any_below p (suc n) = any_below p n || p n

abbrev pub is_cyclic : List (List ℕ) → Bool
is_cyclic supers = any_below (λ c. reaches supers c c) (length supers)
