-- The documented number and place of a fault.
use Rattle.std.specs.Prelude.{ℕ, Option, Some, None}
use Rattle.rule_code.specs.declared.fault.CodeFlaw.{CodeFlaw}
use Rattle.rule_code.specs.declared.fault.CodeFlaw.TheVariants.{Magic, Version, Truncated, BadOpcode, BadText, BadNumber, Limit, Trailing}
use Rattle.rule_code.specs.declared.fault.CodeFault.{CodeFault}
use Rattle.rule_code.specs.declared.fault.CodeFault.TheVariants.{At, OutOfMemory}

abbrev pub code_flaw_number : CodeFlaw → ℕ
code_flaw_number Magic = 1
code_flaw_number Version = 2
code_flaw_number Truncated = 3
code_flaw_number BadOpcode = 4
code_flaw_number BadText = 5
code_flaw_number BadNumber = 6
code_flaw_number Limit = 7
code_flaw_number Trailing = 8

abbrev pub code_fault_number : CodeFault → ℕ
code_fault_number (At flaw offset) = code_flaw_number flaw
code_fault_number OutOfMemory = 9

-- where the wrong field begins
abbrev pub code_fault_offset : CodeFault → Option ℕ
code_fault_offset (At flaw offset) = Some offset
code_fault_offset OutOfMemory = None
