-- The faults of a desk, by their numbers.
use Rattle.std.specs.Prelude.{ℕ}
use Rattle.rule_desk.specs.declared.fault.DeskFault.{DeskFault}
use Rattle.rule_desk.specs.declared.fault.DeskFault.TheVariants.{NoSuchJob, JobOver, OutOfMemory}

abbrev pub desk_fault_number : DeskFault → ℕ
desk_fault_number NoSuchJob = 1
desk_fault_number JobOver = 2
desk_fault_number OutOfMemory = 3
