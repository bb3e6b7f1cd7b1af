use Rattle.std.proofs.Common.{◌≡◌, ◌+◌, ◌≤◌, drop, map}
use Rattle.rule_values.specs.Endings.{count_true}
use Rattle.owned_values.specs.Meant.{meant}
use Rattle.owned_values.proofs.endings.count_true.Given as goal

-- those that were counted, and those that are left
abbrev pub invariant-loop-body : goal.invariant-loop-body
invariant-loop-body l =
    (l.count + count_true (map meant (drop l.body-index l.bodies)) ≡ count_true (map meant l.bodies)) × (l.count ≤ l.body-index)
