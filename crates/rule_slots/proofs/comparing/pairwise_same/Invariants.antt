use Rattle.std.proofs.Common.{◌≡◌, drop}
use Rattle.rule_slots.specs.Compared.{pairwise_same}
use Rattle.rule_slots.specs.Comparer.{same_by, slots_by}
use Rattle.rule_slots.proofs.comparing.pairwise_same.Given as goal

-- they are the same where what is left of them is
abbrev pub invariant-loop-index : goal.invariant-loop-index
invariant-loop-index l =
    pairwise_same (same_by l.comparer) (slots_by l.comparer l.left) (slots_by l.comparer l.right) ≡ pairwise_same (same_by l.comparer) (drop l.index (slots_by l.comparer l.left)) (drop l.index (slots_by l.comparer l.right))
