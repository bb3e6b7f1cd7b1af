-- What stands in a list, lists in which something stands twice, by a test of equality, and variables by their numbers.
use Rattle.std.specs.Prelude.{ℕ, ◌==◌, ◌||◌, List, [], ◌∷◌, length, Option, Some, None, Bool, false, if◌then◌else◌}
use Rattle.std.specs.List.{list_any}

-- a value is one of these
abbrev pub is_among : {A : Type 0} → (A → A → Bool) → List A → A → Bool
is_among same xs x = list_any (same x) xs

-- a value stands twice
abbrev pub repeats : {A : Type 0} → (A → A → Bool) → List A → Bool
repeats same [] = false
repeats same (x ∷ xs) = is_among same xs x || repeats same xs

-- the variable of this number, where the newest comes first and the oldest has number 0
abbrev pub variable_at : {A : Type 0} → List A → ℕ → Option A
variable_at [] n = None
variable_at (k ∷ ks) n = if n == length ks then Some k else variable_at ks n
