use Rattle.rule_verify.proofs.Taken.{Taking}
use Rattle.rule_verify.proofs.taking.take_each.Given as goal

abbrev pub invariant-loop-want : goal.invariant-loop-want
invariant-loop-want l = Taking l.model l.wanted l.fn.operands l.want-index l.operands
