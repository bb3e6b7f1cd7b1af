use Rattle.rule_machine.specs.Contract.{IsStarted}
use Rattle.refusal_tests.proofs.judging.run_by_grants.Given as goal

abbrev pub invariant-grants : goal.invariant-grants
invariant-grants l = IsStarted l.machine
