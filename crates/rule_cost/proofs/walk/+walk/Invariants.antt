use Rattle.std.proofs.Common.{◌-◌, ◌+◌, ◌*◌}
use Rattle.rule_cost.proofs.CodeWalk.{Reached}
use Rattle.rule_cost.proofs.walk.+walk.Given as goal

abbrev pub decreases-sequence : goal.decreases-sequence
decreases-sequence g l = 4 * (l.place.end - l.place.at) + 3

abbrev pub decreases-step : goal.decreases-step
decreases-step g l = 4 * (l.place.end - l.place.at) + 2

abbrev pub decreases-block : goal.decreases-block
decreases-block g l = 4 * (l.place.end - l.place.at) + 1

abbrev pub decreases-branches : goal.decreases-branches
decreases-branches g l = 4 * (l.place.end - l.place.at) + 1

abbrev pub invariant-sequence-instructions : goal.invariant-sequence-instructions
invariant-sequence-instructions g l = Reached l.code l.fn.variables l.place l.charges l.at l.variables l.operands

abbrev pub decreases-sequence-instructions : goal.decreases-sequence-instructions
decreases-sequence-instructions g l = l.place.end - l.at
