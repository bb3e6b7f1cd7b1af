-- The documented numbers of the verifier's faults.
use Rattle.std.specs.Prelude.{ℕ}
use Rattle.rule_verify.specs.declared.fault.VerifyFlaw.{VerifyFlaw}
use Rattle.rule_verify.specs.declared.fault.VerifyFlaw.TheVariants.{NoSuchName, MissingOperand, WrongKind, BadVariable, BadNesting, LeftOver, StackLimit, NestLimit}
use Rattle.rule_verify.specs.declared.fault.VerifyFault.{VerifyFault}
use Rattle.rule_verify.specs.declared.fault.VerifyFault.TheVariants.{At, OutOfMemory}

abbrev pub verify_flaw_number : VerifyFlaw → ℕ
verify_flaw_number NoSuchName = 1
verify_flaw_number MissingOperand = 2
verify_flaw_number WrongKind = 3
verify_flaw_number BadVariable = 4
verify_flaw_number BadNesting = 5
verify_flaw_number LeftOver = 6
verify_flaw_number StackLimit = 7
verify_flaw_number NestLimit = 8

abbrev pub verify_fault_number : VerifyFault → ℕ
verify_fault_number (At flaw rule at) = verify_flaw_number flaw
verify_fault_number OutOfMemory = 9
