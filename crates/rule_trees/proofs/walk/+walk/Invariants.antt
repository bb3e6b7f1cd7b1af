use Rattle.std.proofs.Common.{◌-◌, ◌+◌, ◌*◌}
use Rattle.rule_trees.proofs.Walked.{Reached}
use Rattle.rule_trees.proofs.walk.+walk.Given as goal

abbrev pub decreases-sequence : goal.decreases-sequence
decreases-sequence l = 4 * (l.place.end - l.place.at) + 3

abbrev pub decreases-step : goal.decreases-step
decreases-step l = 4 * (l.place.end - l.place.at) + 2

abbrev pub decreases-block : goal.decreases-block
decreases-block l = 4 * (l.place.end - l.place.at) + 1

abbrev pub decreases-branches : goal.decreases-branches
decreases-branches l = 4 * (l.place.end - l.place.at) + 1

abbrev pub invariant-sequence-instructions : goal.invariant-sequence-instructions
invariant-sequence-instructions l = Reached l.code l.place l.at l.trees

abbrev pub decreases-sequence-instructions : goal.decreases-sequence-instructions
decreases-sequence-instructions l = l.place.end - l.at
