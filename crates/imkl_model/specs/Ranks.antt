-- Names by their ranks in a sorted list.
use Rattle.std.specs.Prelude.{◌≡◌, ℕ, Bool, List, [], Option, Some, String, map, position, bytes_eq, slice_index_or, string_bytes, string_cmp}
use Rattle.std.specs.Ordering.{is_lt, nat_cmp}
use Rattle.std.specs.Cmp.Lexicographic.{slice_cmp}
use Rattle.std.specs.List.{AllByRecursion}
use Rattle.std.specs.List.Sorted.{IsSorted}
use Rattle.std.specs.declared.alloc.Global.{Global}

-- a text stands before a name by the order of bytes
abbrev pub is_before : List ℕ → String Global → Bool
is_before name text = is_lt (slice_cmp nat_cmp (string_bytes text) name)

-- the name at a place of the list
abbrev pub named : List (List ℕ) → ℕ → List ℕ
named sorted rank = slice_index_or sorted rank []

-- the rank of a name: the first place at which it stands
abbrev pub rank_in : List (List ℕ) → List ℕ → Option ℕ
rank_in sorted name = position (bytes_eq name) sorted

-- each of these is the rank of its name
abbrev pub AreRanks : List (List ℕ) → List ℕ → Type 0
AreRanks sorted ranks = AllByRecursion (λ rank. rank_in sorted (named sorted rank) ≡ Some rank) ranks

-- texts in order, and ranks in them
pub record HoldsNames (texts : List (String Global)) (keys : List ℕ) : Type 0 where
  pub sorted : IsSorted string_cmp texts
  pub ranks : AreRanks (map string_bytes texts) keys
