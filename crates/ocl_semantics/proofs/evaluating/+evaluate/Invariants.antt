use Rattle.std.proofs.Common.{◌≡◌, ◌∷◌, ◌++◌, map, drop}
use Rattle.std.specs.List.{AllByRecursion}
use Rattle.ocl_core.specs.Core.{cores_of}
use Rattle.ocl_core.specs.CoreView.{core_view}
use Rattle.ocl_semantics.specs.Meaning.{meaning, meanings, fold_over}
use Rattle.rule_values.specs.Value.{element_value}
use Rattle.owned_values.specs.Meant.{meant, meant_elements, IsValueThere, AreElementsThere}
use Rattle.ocl_semantics.specs.Resolved.{IsResolved, AreResolved, AreThere}
use Rattle.ocl_semantics.specs.Evaluated.{bindings, links_value, AreLinksResolved}
use Rattle.ocl_semantics.proofs.evaluating.+evaluate.Given as goal

-- the values that are left, seen after those that are bound
abbrev pub invariant-bind_all-values : goal.invariant-bind_all-values
invariant-bind_all-values l =
    (bindings l.population.content (map core_view (drop l.value-index l.values)) l.variables
    ≡ bindings l.population.content (map core_view l.values) l.initial.variables)
    × (AllByRecursion (IsResolved l.population.content.model) (map core_view (drop l.value-index l.values))
    × (AreThere l.population.content l.variables × (drop l.value-index l.variables ≡ l.initial.variables)))

-- the values so far, and those that are left
abbrev pub invariant-evaluate_all-cores : goal.invariant-evaluate_all-cores
invariant-evaluate_all-cores l =
    (map meant l.values.items ++ meanings l.population.content (cores_of (map core_view (drop l.core-index l.cores))) l.initial.variables
    ≡ meanings l.population.content (cores_of (map core_view l.cores)) l.initial.variables)
    × (AreResolved l.population.content.model (cores_of (map core_view (drop l.core-index l.cores))) × (l.variables ≡ l.initial.variables))

-- the value so far, and the links that are left
abbrev pub invariant-evaluate_links-links : goal.invariant-evaluate_links-links
invariant-evaluate_links-links l =
    (links_value l.population.content l.initial.variables (meant l.value) (drop l.link-index l.links)
    ≡ links_value l.population.content l.initial.variables (meant l.fn.first) l.links)
    × (IsValueThere l.population.content (meant l.value)
    × (AreLinksResolved l.population.content.model (drop l.link-index l.links) × (l.variables ≡ l.initial.variables)))

-- the bodies so far, and the elements that are left
abbrev pub invariant-evaluate_bodies-elements : goal.invariant-evaluate_bodies-elements
invariant-evaluate_bodies-elements l =
    (map meant l.bodies.items ++ map (λ e. meaning l.population.content (core_view l.body) (element_value e ∷ l.initial.variables)) (meant_elements (drop l.element-index l.elements))
    ≡ map (λ e. meaning l.population.content (core_view l.body) (element_value e ∷ l.initial.variables)) (meant_elements l.elements))
    × (AreElementsThere l.population.content (meant_elements (drop l.element-index l.elements)) × (l.variables ≡ l.initial.variables))

-- what is accumulated so far, and the elements that are left
abbrev pub invariant-fold_elements-elements : goal.invariant-fold_elements-elements
invariant-fold_elements-elements l =
    (fold_over (λ e a. meaning l.population.content (core_view l.body) (a ∷ element_value e ∷ l.initial.variables)) (meant l.accumulated) (meant_elements (drop l.element-index l.elements))
    ≡ fold_over (λ e a. meaning l.population.content (core_view l.body) (a ∷ element_value e ∷ l.initial.variables)) (meant l.fn.start) (meant_elements l.elements))
    × (IsValueThere l.population.content (meant l.accumulated)
    × (AreElementsThere l.population.content (meant_elements (drop l.element-index l.elements)) × (l.variables ≡ l.initial.variables)))
