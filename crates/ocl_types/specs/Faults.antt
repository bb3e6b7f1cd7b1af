-- The faults of a rule's types: their numbers and offsets.
use Rattle.std.specs.Prelude.{ℕ, Option, Some, None}
use Rattle.ocl_base.specs.Steps.{FaultMeaning, fault, out_of_memory}
use Rattle.ocl_types.specs.declared.fault.TypeFlaw.{TypeFlaw}
use Rattle.ocl_types.specs.declared.fault.TypeFlaw.TheVariants.{UnknownName, WrongType, NoCommonType, NestedCollection, NotBoolean, UnknownOperation, WrongArgumentCount}
use Rattle.ocl_types.specs.declared.fault.TypeFault.{TypeFault}
use Rattle.ocl_types.specs.declared.fault.TypeFault.TheVariants.{At, OutOfMemory}

-- what is wrong, and at which byte of the text
pub record TypeFaultAt : Type 0 where
  pub flaw : TypeFlaw
  pub offset : ℕ

abbrev pub type_fault_at : TypeFlaw → ℕ → TypeFaultAt
type_fault_at flaw offset = record { flaw = flaw; offset = offset }

abbrev pub type_flaw_number : TypeFlaw → ℕ
type_flaw_number UnknownName = 1
type_flaw_number WrongType = 2
type_flaw_number NoCommonType = 3
type_flaw_number NestedCollection = 4
type_flaw_number NotBoolean = 5
type_flaw_number UnknownOperation = 6
type_flaw_number WrongArgumentCount = 7

abbrev pub type_fault_number : TypeFault → ℕ
type_fault_number (At flaw offset) = type_flaw_number flaw
type_fault_number OutOfMemory = 8

abbrev pub type_fault_offset : TypeFault → Option ℕ
type_fault_offset (At flaw offset) = Some offset
type_fault_offset OutOfMemory = None

-- what a fault that was returned means
abbrev pub type_fault : TypeFault → FaultMeaning TypeFaultAt
type_fault (At flaw offset) = fault (type_fault_at flaw offset)
type_fault OutOfMemory = out_of_memory
