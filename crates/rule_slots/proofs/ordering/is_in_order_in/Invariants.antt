use Rattle.std.proofs.Common.{◌≡◌, drop}
use Rattle.rule_slots.specs.Slots.{lists_in}
use Rattle.rule_slots.specs.Ordered.{compare_slots, is_defined, may_precede, rises}
use Rattle.rule_slots.specs.Comparer.{slots_by, is_strict, is_ordered}
use Rattle.rule_slots.proofs.ordering.is_in_order_in.Given as goal

-- all are in order where those are that are left
abbrev pub invariant-loop-index : goal.invariant-loop-index
invariant-loop-index l =
    is_ordered l.comparer l.order l.source ≡ rises is_defined (λ a b. may_precede (is_strict l.order) (compare_slots (lists_in l.comparer.lists) l.comparer.kind a b)) (drop l.index (slots_by l.comparer l.source))
