-- What is written at the features of one object.
use Rattle.std.specs.Prelude.{ℕ, Bool, List, [], is_some, unwrap_or}
use Rattle.std.specs.List.Sorted.{IsStrictlySortedBy}
use Rattle.std.specs.Map.{lookup, keys_of}
use Rattle.std.specs.Ordering.{nat_cmp}
use Rattle.std.specs.BTreeMap.{is_at}
use Rattle.imkl_population.specs.declared.scalar.Scalar.{Scalar}

-- the values at a feature: nothing written is the empty list
abbrev pub written_in : List (ℕ × List Scalar) → ℕ → List Scalar
written_in written f = unwrap_or (lookup (is_at (nat_cmp f)) written) []

-- something is written at a feature, if only the empty list
abbrev pub is_set : List (ℕ × List Scalar) → ℕ → Bool
is_set written f = is_some (lookup (is_at (nat_cmp f)) written)

-- the features ascend, so each stands once
abbrev pub IsMap : List (ℕ × List Scalar) → Type 0
IsMap written = IsStrictlySortedBy nat_cmp (keys_of written)
