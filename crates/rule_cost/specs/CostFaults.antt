-- The documented numbers of the faults of admission, and what they mean.
use Rattle.std.specs.Prelude.{ℕ}
use Rattle.ocl_base.specs.Steps.{FaultMeaning, fault, out_of_memory}
use Rattle.rule_cost.specs.declared.fault.CostFault.{CostFault}
use Rattle.rule_cost.specs.declared.fault.CostFault.TheVariants.{TooCostly, OutOfMemory}

abbrev pub cost_fault_number : CostFault → ℕ
cost_fault_number (TooCostly rule) = 1
cost_fault_number OutOfMemory = 2

-- a rule that costs too much, or memory that ran out, of which no definition speaks
abbrev pub cost_fault : CostFault → FaultMeaning ℕ
cost_fault (TooCostly rule) = fault rule
cost_fault OutOfMemory = out_of_memory
