use Rattle.std.proofs.Common.{◌≡◌, drop}
use Rattle.rule_values.specs.Equality.{same_lists}
use Rattle.owned_values.specs.Meant.{meant_elements}
use Rattle.owned_values.proofs.equalities.same_lists.Given as goal

-- they are the same where what is left of them is
abbrev pub invariant-loop-index : goal.invariant-loop-index
invariant-loop-index l =
    same_lists (meant_elements l.left) (meant_elements l.right) ≡ same_lists (meant_elements (drop l.index l.left)) (meant_elements (drop l.index l.right))
