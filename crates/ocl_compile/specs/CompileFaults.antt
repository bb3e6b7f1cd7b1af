-- The documented numbers of the faults of compiling, and what they mean.
use Rattle.std.specs.Prelude.{ℕ}
use Rattle.ocl_base.specs.Steps.{FaultMeaning, fault, out_of_memory}
use Rattle.ocl_compile.specs.declared.fault.Limit.{Limit}
use Rattle.ocl_compile.specs.declared.fault.Limit.TheVariants as limits
use Rattle.ocl_compile.specs.declared.fault.CompileFault.{CompileFault}
use Rattle.ocl_compile.specs.declared.fault.CompileFault.TheVariants.{At, OutOfMemory}
use Rattle.ocl_compile.specs.Compiling.{LimitAt, limit_at}

abbrev pub limit_number : Limit → ℕ
limit_number limits.Stack = 1
limit_number limits.Nesting = 2
limit_number limits.Size = 3

abbrev pub compile_fault_number : CompileFault → ℕ
compile_fault_number (At limit rule) = limit_number limit
compile_fault_number OutOfMemory = 4

-- a limit that a rule passes, or memory that ran out, of which no definition speaks
abbrev pub compile_fault : CompileFault → FaultMeaning LimitAt
compile_fault (At limit rule) = fault (limit_at limit rule)
compile_fault OutOfMemory = out_of_memory
