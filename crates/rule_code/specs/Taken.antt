-- The names that rules have so far.
use Rattle.std.specs.Prelude.{ℕ, Bool, List}
use Rattle.std.specs.Ordering.{nat_cmp}
use Rattle.std.specs.Cmp.Lexicographic.{slice_cmp}
use Rattle.std.specs.BTreeSet.{BTreeSet, contains_by}
use denote.Ref.{Bor}

-- whether the set has a text of these bytes
unfoldable pub is_name_taken : BTreeSet (Bor (List ℕ)) → List ℕ → Bool
is_name_taken names s = contains_by (λ k. slice_cmp nat_cmp s k.now) names
