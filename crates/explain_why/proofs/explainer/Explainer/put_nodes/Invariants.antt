use Rattle.std.proofs.Common.{◌≡◌, ◌++◌, map, take, drop, string_bytes}
use Rattle.ocl_core.specs.CoreView.{core_view, core_link_of, core_spine}
use Rattle.explain_why.specs.NameWalk.{naming_view}
use Rattle.explain_why.specs.Explanation.{explained}
use Rattle.explain_why.specs.PartWalk.{spine_lines}
use Rattle.explain_why.proofs.explainer.Explainer.put_nodes.Given as goal

-- what was put, and what is left of the links before those
abbrev pub invariant-loop-index : goal.invariant-loop-index
invariant-loop-index l =
    (string_bytes l.out ++ spine_lines l.self.population.now.content (core_view l.first) (take l.index l.links) (drop l.index l.links) l.level l.initial.variables (naming_view l.self.naming)
    ≡ string_bytes l.initial.out ++ explained l.self.population.now.content (core_spine (core_view l.first) (map core_link_of l.links)) l.self.level l.initial.variables (naming_view l.self.naming))
    × (l.variables ≡ l.initial.variables)
