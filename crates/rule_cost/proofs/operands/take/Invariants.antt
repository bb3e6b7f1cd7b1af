use Rattle.std.proofs.Common.{◌≡◌, drop}
use Rattle.rule_cost.proofs.operands.take.Given as goal

abbrev pub invariant-loop : goal.invariant-loop
invariant-loop l = l.operands ≡ drop l.counter l.fn.operands
