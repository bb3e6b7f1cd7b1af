-- A test of rules: the report on a delivery, and the one that is wanted.
use Rattle.std.specs.Prelude.{ℕ, Bool, false, bytes_eq, List, Option, Some, None}
use Rattle.ocl_check.specs.declared.commands.judge.JudgeOptions.{JudgeOptions}
use Rattle.ocl_check.specs.JudgeText.{JudgeAnswers}

-- these bytes are what `judge` may answer, with one status or another
abbrev pub IsReport : JudgeOptions → List ℕ → List ℕ → List ℕ → List ℕ → Type 0
IsReport options model delivery rules report = (status : ℕ) × JudgeAnswers options model delivery rules (report, status)

-- a report is as wanted where the very same bytes are; where none are wanted, none is
abbrev pub is_as_wanted : Option (List ℕ) → List ℕ → Bool
is_as_wanted None report = false
is_as_wanted (Some wanted) report = bytes_eq wanted report
