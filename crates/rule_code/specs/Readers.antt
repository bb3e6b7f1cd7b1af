-- What the functions that read a code file promise: what the definitions of reading give, unless memory runs out.
use Rattle.std.specs.Prelude.{ℕ, List, Result}
use Rattle.ocl_base.specs.Steps.{FaultMeaning, fault, out_of_memory, Gives}
use Rattle.rule_code.specs.declared.fault.FieldFault.{FieldFault}
use Rattle.rule_code.specs.declared.fault.FieldFault.TheVariants as faults
use Rattle.rule_code.specs.declared.reading.reader.Reader.{Reader}
use Rattle.rule_code.specs.Reading.{Fault, FieldRead}

-- what a fault that was returned means
abbrev pub field_fault_meaning : FieldFault → FaultMeaning Fault
field_fault_meaning (faults.At flaw left) = fault (record { flaw = flaw; left = left })
field_fault_meaning faults.OutOfMemory = out_of_memory

-- what was returned, seen by a view, is what reading gives
abbrev pub Reads : {X Y : Type 0} → (X → Y) → Result X FieldFault → Result Y Fault → Type 0
Reads view result given = Gives field_fault_meaning view result given

-- The same of a function over a reader: where it succeeds, the reader has left what reading leaves.
abbrev pub ReadsOn : {X Y : Type 0} → (X → Y) → Result X FieldFault → Reader → Reader → (List ℕ → FieldRead Y) → Type 0
ReadsOn view result before after item_from = Reads (λ x. (view x, after.left.now)) result (item_from before.left.now)
