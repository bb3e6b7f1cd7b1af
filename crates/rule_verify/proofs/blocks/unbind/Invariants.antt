use Rattle.std.proofs.Common.{◌≡◌, drop}
use Rattle.rule_verify.proofs.blocks.unbind.Given as goal

abbrev pub invariant-loop : goal.invariant-loop
invariant-loop l = l.variables ≡ drop l.counter l.fn.variables
