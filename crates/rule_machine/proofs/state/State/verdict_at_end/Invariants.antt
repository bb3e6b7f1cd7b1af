use Rattle.std.proofs.Common.{length}
use Rattle.rule_machine.specs.Shown.{Same}
use Rattle.rule_machine.proofs.state.State.verdict_at_end.Given as goal

abbrev pub invariant-loop-self : goal.invariant-loop-self
invariant-loop-self l = Same l.task l.fn.self l.self

abbrev pub decreases-loop-self : goal.decreases-loop-self
decreases-loop-self l = length l.self.pieces.0
