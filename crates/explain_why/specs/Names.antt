-- The names of variables in explanations. A variable has the name that the rule's text gives it, where no other variable that is
-- seen has it, and else `x` and its number. The object of the context class is variable 0 and is named `self`.
use Rattle.std.specs.Prelude.{ℕ, zero, suc, max, ◌||◌, List, [], ◌∷◌, ◌++◌, length, replicate, bytes_eq, codes, slice_index_or, if◌then◌else◌}
use Rattle.std.specs.Fmt.{decimal}
use Rattle.ocl_base.specs.Lists.{is_among}
use Rattle.ocl_core.specs.Core as tree
use Rattle.ocl_core.specs.Core.{CoreTree, CoreTrees}

-- a variable by its number
abbrev pub variable_name : ℕ → List ℕ
variable_name zero = codes "self"
variable_name (suc n) = 120 ∷ decimal (suc n)

-- What is known of names where a part of a tree stands: the names that the text gives to the tree's variables, in the order in
-- which they are bound, an empty one where it gives none; how many are bound in what stands before the part; and the names of
-- the variables that the part sees, the outermost first.
pub record Naming : Type 0 where
  pub given : List (List ℕ)
  pub at : ℕ
  pub seen : List (List ℕ)

-- ---- the name of the variable that is bound next

abbrev pub longest : List (List ℕ) → ℕ
longest [] = 0
longest (name ∷ names) = max (length name) (longest names)

-- a variable by its number; behind that stand so many primes that no other name is as long, where the text has a variable of that
-- name or one that is seen has it
abbrev pub number_name : Naming → List ℕ → List ℕ
number_name s name =
    if is_among bytes_eq s.given name || is_among bytes_eq s.seen name then name ++ replicate (longest s.seen) 39 else name

abbrev pub name_by : Naming → List ℕ → List ℕ
name_by s [] = number_name s (variable_name (length s.seen))
name_by s (b ∷ bs) = if is_among bytes_eq s.seen (b ∷ bs) then number_name s (variable_name (length s.seen)) else b ∷ bs

unfoldable pub next_name : Naming → List ℕ
next_name s = name_by s (slice_index_or s.given s.at [])

-- the name of the variable of a number
abbrev pub name_in : Naming → ℕ → List ℕ
name_in s v = slice_index_or s.seen v (variable_name v)

-- ---- where parts stand

-- how many variables are bound up to the end of a tree, by how many are before it
abbrev mutual
  pub bound_after : CoreTree → ℕ → ℕ
  bound_after (tree.Value c) n = n
  bound_after (tree.Variable v) n = n
  bound_after (tree.AllInstances c) n = n
  bound_after (tree.Feature source f) n = bound_after source n
  bound_after (tree.Operation operator first others) n = bound_after_all others (bound_after first n)
  bound_after (tree.AsCollection c k source) n = bound_after source n
  bound_after (tree.Iterate i source body) n = bound_after body (suc (bound_after source n))
  bound_after (tree.Fold k source start body) n = bound_after body (suc (suc (bound_after start (bound_after source n))))
  bound_after (tree.Let value body) n = bound_after body (suc (bound_after value n))
  bound_after (tree.If k condition first second) n = bound_after second (bound_after first (bound_after condition n))

  pub bound_after_all : CoreTrees → ℕ → ℕ
  bound_after_all tree.no_core n = n
  bound_after_all (tree.one_core first rest) n = bound_after_all rest (bound_after first n)

-- behind a tree
abbrev pub past : CoreTree → Naming → Naming
past t s = record { given = s.given; at = bound_after t s.at; seen = s.seen }

-- in the body of what binds the next variable
abbrev pub with_next : Naming → Naming
with_next s = record { given = s.given; at = suc s.at; seen = s.seen ++ next_name s ∷ [] }

-- at a whole tree, by the names that its text gives
abbrev pub naming_of : List (List ℕ) → Naming
naming_of given = record { given = given; at = 0; seen = codes "self" ∷ [] }
