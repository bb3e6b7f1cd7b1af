use Rattle.std.proofs.Common.{◌≡◌, drop}
use Rattle.std.specs.Prelude.{◌==◌}
use Rattle.std.specs.List.{list_all}
use Rattle.rule_slots.specs.Compared.{times_among, stand_as_often}
use Rattle.rule_slots.specs.Comparer.{same_by, slots_by}
use Rattle.rule_slots.proofs.comparing.stand_as_often.Given as goal

-- it holds of those that are left where it holds of all
abbrev pub invariant-loop-index : goal.invariant-loop-index
invariant-loop-index l =
    stand_as_often (same_by l.comparer) (slots_by l.comparer l.left) (slots_by l.comparer l.right)
    ≡ list_all (λ x. times_among (same_by l.comparer) (slots_by l.comparer l.left) x == times_among (same_by l.comparer) (slots_by l.comparer l.right) x) (drop l.index (slots_by l.comparer l.left))
