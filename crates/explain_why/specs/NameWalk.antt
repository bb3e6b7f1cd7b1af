-- Names as the code has them, and scopes behind links and in the body of several values.
use Rattle.std.specs.Prelude.{ℕ, suc, List, [], ◌∷◌, map, string_bytes}
use Rattle.ocl_core.specs.declared.core_tree.CoreLink.{CoreLink}
use Rattle.ocl_core.specs.Core.{CoreTree}
use Rattle.ocl_semantics.specs.Evaluated.{on_null}
use Rattle.explain_why.specs.declared.names.Naming as declared
use Rattle.explain_why.specs.declared.names.Inner as owned
use Rattle.explain_why.specs.Names.{Naming, bound_after, past, with_next}

abbrev pub naming_view : declared.Naming → Naming
naming_view s = record { given = map string_bytes s.given.now; at = s.at; seen = map string_bytes s.seen.now }

abbrev pub inner_view : owned.Inner → Naming
inner_view s = record { given = map string_bytes s.given.now; at = s.at; seen = map string_bytes s.seen.items }

-- behind links
abbrev pub bound_after_links : List CoreLink → ℕ → ℕ
bound_after_links [] n = n
bound_after_links (k ∷ ks) n = bound_after_links ks (bound_after (on_null k) n)

-- behind links on what stands before them
abbrev pub past_links : List CoreLink → Naming → Naming
past_links [] s = s
past_links (k ∷ ks) s = past_links ks (past (on_null k) s)

-- behind values as variables, up to the body that sees them
abbrev pub with_all : List CoreTree → Naming → Naming
with_all [] s = s
with_all (v ∷ vs) s = with_all vs (with_next (past v s))

-- behind values as variables, by how many variables are bound before them
abbrev pub bound_after_values : List CoreTree → ℕ → ℕ
bound_after_values [] n = n
bound_after_values (v ∷ vs) n = bound_after_values vs (suc (bound_after v n))
