use Rattle.std.proofs.Common.{◌≡◌, ◌∷◌, ◌++◌, drop, map}
use Rattle.ocl_core.specs.CoreView.{core_view}
use Rattle.rule_values.specs.Value.{element_value}
use Rattle.owned_values.specs.Meant.{meant, meant_elements, IsValueThere, AreElementsThere}
use Rattle.ocl_semantics.specs.Meaning.{meaning}
use Rattle.explain_why.specs.Turns.{fold_turn, turns_from}
use Rattle.explain_why.proofs.turns.turns_of.Given as goal

-- the turns that were taken, what is accumulated, and the elements that are left
abbrev pub invariant-loop-index : goal.invariant-loop-index
invariant-loop-index l =
    (map fold_turn l.turns.items ++ turns_from l.index (λ e a. meaning l.population.content (core_view l.body) (a ∷ element_value e ∷ l.initial.variables)) (meant l.accumulated) (meant_elements (drop l.index l.elements))
    ≡ turns_from 0 (λ e a. meaning l.population.content (core_view l.body) (a ∷ element_value e ∷ l.initial.variables)) (meant l.fn.start) (meant_elements l.elements))
    × (IsValueThere l.population.content (meant l.accumulated)
    × (AreElementsThere l.population.content (meant_elements (drop l.index l.elements)) × (l.variables ≡ l.initial.variables)))
