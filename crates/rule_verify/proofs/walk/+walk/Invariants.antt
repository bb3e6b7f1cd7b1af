use Rattle.std.proofs.Common.{◌-◌, ◌+◌, ◌*◌, []}
use Rattle.rule_verify.specs.Walk.{Gone}
use Rattle.rule_verify.proofs.walk.+walk.Given as goal

abbrev pub decreases-sequence : goal.decreases-sequence
decreases-sequence g l = 4 * (l.place.end - l.place.at) + 3

abbrev pub decreases-step : goal.decreases-step
decreases-step g l = 4 * (l.place.end - l.place.at) + 2

abbrev pub decreases-block : goal.decreases-block
decreases-block g l = 4 * (l.place.end - l.place.at) + 1

abbrev pub decreases-branches : goal.decreases-branches
decreases-branches g l = 4 * (l.place.end - l.place.at) + 1

abbrev pub decreases-body : goal.decreases-body
decreases-body g l = 4 * (l.place.end - l.place.at) + 4

abbrev pub invariant-sequence-instructions : goal.invariant-sequence-instructions
invariant-sequence-instructions g l = Gone l.rule l.fn.walk.variables l.fn.walk.depths l.place [] l.at l.walk.variables l.walk.depths l.operands

abbrev pub decreases-sequence-instructions : goal.decreases-sequence-instructions
decreases-sequence-instructions g l = l.place.end - l.at
