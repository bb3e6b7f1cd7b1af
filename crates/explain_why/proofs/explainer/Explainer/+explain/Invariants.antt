use Rattle.std.proofs.Common.{◌≡◌, ◌+◌, ◌++◌, map, drop, string_bytes}
use Rattle.std.specs.List.{AllByRecursion, flat_map}
use Rattle.ocl_core.specs.Core.{cores_of, lets_of}
use Rattle.ocl_core.specs.CoreView.{core_view}
use Rattle.owned_values.specs.Meant.{meant, meant_elements, IsValueThere, AreElementsThere}
use Rattle.ocl_semantics.specs.Meaning.{meaning}
use Rattle.ocl_semantics.specs.Resolved.{IsResolved, AreResolved, AreThere}
use Rattle.ocl_semantics.specs.Evaluated.{bindings, AreLinksResolved}
use Rattle.explain_why.specs.NameWalk.{naming_view, inner_view, with_all}
use Rattle.explain_why.specs.Turns.{fold_turn, AreTurnsThere}
use Rattle.explain_why.specs.Explanation.{all_explained}
use Rattle.explain_why.specs.PartWalk.{element_lines, step_lines, links_lines, lets_lines}
use Rattle.explain_why.proofs.explainer.Explainer.+explain.Given as goal

-- what was put, the values that are left, and the variables that are bound
abbrev pub invariant-explain_values-values : goal.invariant-explain_values-values
invariant-explain_values-values l =
    (string_bytes l.out ++ lets_lines l.self.population.now.content (map core_view (drop l.index l.values)) (core_view l.body) l.level l.variables (inner_view l.inner)
    ≡ string_bytes l.initial.out ++ lets_lines l.self.population.now.content (map core_view l.values) (core_view l.body) l.self.level l.initial.variables (naming_view l.self.naming))
    × ((l.level ≡ l.self.level + l.index)
    × ((with_all (map core_view (drop l.index l.values)) (inner_view l.inner) ≡ with_all (map core_view l.values) (naming_view l.self.naming))
    × ((bindings l.self.population.now.content (map core_view (drop l.index l.values)) l.variables
    ≡ bindings l.self.population.now.content (map core_view l.values) l.initial.variables)
    × ((meant l.whole ≡ meaning l.self.population.now.content (lets_of (map core_view (drop l.index l.values)) (core_view l.body)) l.variables)
    × (AllByRecursion (IsResolved l.self.population.now.content.model) (map core_view (drop l.index l.values))
    × (AreThere l.self.population.now.content l.variables × (drop l.index l.variables ≡ l.initial.variables)))))))

-- what was put, the value so far, and the links that are left
abbrev pub invariant-explain_links-links : goal.invariant-explain_links-links
invariant-explain_links-links l =
    (string_bytes l.out ++ links_lines l.self.population.now.content (drop l.index l.links) l.level l.initial.variables (naming_view l.naming) (meant l.value)
    ≡ string_bytes l.initial.out ++ links_lines l.self.population.now.content (drop l.from l.links) l.self.level l.initial.variables (naming_view l.self.naming) (meant l.fn.first))
    × (IsValueThere l.self.population.now.content (meant l.value)
    × (AreLinksResolved l.self.population.now.content.model (drop l.index l.links) × (l.variables ≡ l.initial.variables)))

-- what was put, and the trees that are left
abbrev pub invariant-explain_all-cores : goal.invariant-explain_all-cores
invariant-explain_all-cores l =
    (string_bytes l.out ++ all_explained l.self.population.now.content (cores_of (map core_view (drop l.core-index l.cores))) l.self.level l.initial.variables (naming_view l.naming)
    ≡ string_bytes l.initial.out ++ all_explained l.self.population.now.content (cores_of (map core_view l.cores)) l.self.level l.initial.variables (naming_view l.self.naming))
    × (AreResolved l.self.population.now.content.model (cores_of (map core_view (drop l.core-index l.cores))) × (l.variables ≡ l.initial.variables))

-- what was put, and the elements that are left
abbrev pub invariant-explain_elements-elements : goal.invariant-explain_elements-elements
invariant-explain_elements-elements l =
    (string_bytes l.out ++ flat_map (element_lines l.self.population.now.content (core_view l.body) l.self.level l.initial.variables (naming_view l.self.naming)) (meant_elements (drop l.element-index l.elements))
    ≡ string_bytes l.initial.out ++ flat_map (element_lines l.self.population.now.content (core_view l.body) l.self.level l.initial.variables (naming_view l.self.naming)) (meant_elements l.elements))
    × (AreElementsThere l.self.population.now.content (meant_elements (drop l.element-index l.elements)) × (l.variables ≡ l.initial.variables))

-- what was put, and the turns that are left
abbrev pub invariant-explain_turns-turns : goal.invariant-explain_turns-turns
invariant-explain_turns-turns l =
    (string_bytes l.out ++ flat_map (λ t. step_lines l.self.population.now.content (core_view l.body) l.self.level l.initial.variables (naming_view l.self.naming) t.element t.before) (map fold_turn (drop l.turn-index l.turns))
    ≡ string_bytes l.initial.out ++ flat_map (λ t. step_lines l.self.population.now.content (core_view l.body) l.self.level l.initial.variables (naming_view l.self.naming) t.element t.before) (map fold_turn l.turns))
    × (AreTurnsThere l.self.population.now.content (map fold_turn (drop l.turn-index l.turns)) × (l.variables ≡ l.initial.variables))
