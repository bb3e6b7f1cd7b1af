use Rattle.std.proofs.Common.{subst}
use Rattle.rule_machine.specs.Shown.{IsFirstMark}
use Rattle.rule_machine.proofs.state.State.pass.Goals as goal

pub unreachable-requires : goal.unreachable-requires
unreachable-requires c = subst IsFirstMark c.in_default.ensures c.requires.mark
