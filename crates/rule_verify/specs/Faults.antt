-- What the verifier's faults mean.
use Rattle.ocl_base.specs.Steps.{FaultMeaning, fault, out_of_memory}
use Rattle.rule_verify.specs.declared.fault.VerifyFault.{VerifyFault}
use Rattle.rule_verify.specs.declared.fault.VerifyFault.TheVariants.{At, OutOfMemory}
use Rattle.rule_verify.specs.KindRules.{InstrFault, instr_fault}

abbrev pub verify_fault : VerifyFault → FaultMeaning InstrFault
verify_fault (At flaw rule at) = fault (instr_fault flaw rule at)
verify_fault OutOfMemory = out_of_memory
