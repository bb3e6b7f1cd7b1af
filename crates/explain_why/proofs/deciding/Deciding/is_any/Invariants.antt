use Rattle.std.proofs.Common.{◌≡◌, drop, map}
use Rattle.std.specs.List.{list_any}
use Rattle.owned_values.specs.Meant.{meant}
use Rattle.explain_why.specs.Explanation.{decides, deciding_of}
use Rattle.explain_why.proofs.deciding.Deciding.is_any.Given as goal

-- one of all decides where one that is left does
abbrev pub invariant-loop-body : goal.invariant-loop-body
invariant-loop-body l =
    list_any (decides (deciding_of l.self)) (map meant l.bodies) ≡ list_any (decides (deciding_of l.self)) (map meant (drop l.body-index l.bodies))
