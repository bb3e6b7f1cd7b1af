use Rattle.std.proofs.Common.{◌≡◌, ◌++◌, drop}
use Rattle.owned_values.specs.Meant.{meant, meant_elements}
use Rattle.explain_why.specs.Differences.{lacked_by}
use Rattle.explain_why.proofs.differences.lacked_by.Given as goal

-- those that were kept, and those that are left
abbrev pub invariant-loop-element : goal.invariant-loop-element
invariant-loop-element l =
    meant_elements l.kept.items ++ lacked_by (meant l.collection) (meant_elements (drop l.element-index l.elements))
    ≡ lacked_by (meant l.collection) (meant_elements l.elements)
