use Rattle.std.proofs.Common.{◌≡◌, drop}
use Rattle.std.specs.Prelude.{◌==◌}
use Rattle.std.specs.List.{list_all}
use Rattle.rule_values.specs.Equality.{occurrences}
use Rattle.owned_values.specs.Meant.{meant_elements}
use Rattle.owned_values.proofs.equalities.occur_as_often.Given as goal

-- it holds of all where it holds of those that are left
abbrev pub invariant-loop-element : goal.invariant-loop-element
invariant-loop-element l =
    list_all (λ e. occurrences (meant_elements l.left) e == occurrences (meant_elements l.right) e) (meant_elements l.left)
    ≡ list_all (λ e. occurrences (meant_elements l.left) e == occurrences (meant_elements l.right) e) (meant_elements (drop l.element-index l.left))
