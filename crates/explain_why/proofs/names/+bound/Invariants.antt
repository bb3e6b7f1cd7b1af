use Rattle.std.proofs.Common.{◌≡◌, map, drop}
use Rattle.ocl_core.specs.Core.{cores_of}
use Rattle.ocl_core.specs.CoreView.{core_view}
use Rattle.explain_why.specs.Names.{bound_after_all}
use Rattle.explain_why.specs.NameWalk.{bound_after_links, bound_after_values}
use Rattle.explain_why.proofs.names.+bound.Given as goal

-- what is bound so far, and the links that are left
abbrev pub invariant-bound_after_links-links : goal.invariant-bound_after_links-links
invariant-bound_after_links-links l = bound_after_links (drop l.link-index l.links) l.bound ≡ bound_after_links l.links l.fn.bound

-- and the trees
abbrev pub invariant-bound_after_all-cores : goal.invariant-bound_after_all-cores
invariant-bound_after_all-cores l =
    bound_after_all (cores_of (map core_view (drop l.core-index l.cores))) l.bound ≡ bound_after_all (cores_of (map core_view l.cores)) l.fn.bound

-- and the values
abbrev pub invariant-bound_after_values-values : goal.invariant-bound_after_values-values
invariant-bound_after_values-values l =
    bound_after_values (map core_view (drop l.value-index l.values)) l.bound ≡ bound_after_values (map core_view l.values) l.fn.bound
