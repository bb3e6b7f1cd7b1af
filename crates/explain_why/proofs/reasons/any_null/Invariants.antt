use Rattle.std.proofs.Common.{◌≡◌, drop, map}
use Rattle.std.specs.List.{list_any}
use Rattle.rule_values.specs.Operations.{is_null}
use Rattle.owned_values.specs.Meant.{meant}
use Rattle.explain_why.proofs.reasons.any_null.Given as goal

-- one of all is so where one that is left is
abbrev pub invariant-loop-other : goal.invariant-loop-other
invariant-loop-other l = list_any is_null (map meant l.others) ≡ list_any is_null (map meant (drop l.other-index l.others))
