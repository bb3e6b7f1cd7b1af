use Rattle.std.proofs.Common.{◌≡◌, ◌++◌, drop, string_bytes}
use Rattle.owned_values.specs.Meant.{meant_elements, AreElementsThere}
use Rattle.explain_why.specs.Values.{elements_text}
use Rattle.explain_why.proofs.values.put_elements.Given as goal

-- what was put, and the elements that are left
abbrev pub invariant-loop-index : goal.invariant-loop-index
invariant-loop-index l =
    (string_bytes l.out ++ elements_text l.population.content l.index (meant_elements (drop l.index l.elements)) ≡ string_bytes l.initial.out ++ elements_text l.population.content 0 (meant_elements l.elements))
    × AreElementsThere l.population.content (meant_elements (drop l.index l.elements))
