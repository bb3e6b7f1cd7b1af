-- The faults of a class model: their numbers, and what each means where a function returns it.
use Rattle.std.specs.Prelude.{ℕ}
use Rattle.ocl_base.specs.Steps.{FaultMeaning, fault, out_of_memory, never}
use Rattle.imkl_json.specs.declared.reading.JsonFault.{JsonFault}
use Rattle.imkl_json.specs.declared.reading.JsonFault.TheVariants as json
use Rattle.imkl_model.specs.declared.fault.ModelFault.{ModelFault}
use Rattle.imkl_model.specs.declared.fault.ModelFault.TheVariants.{NotJson, Shape, DuplicateName, UnknownName, Cycle, FeatureClash, BadMultiplicity, Limit, OutOfMemory}

abbrev pub model_fault_number : ModelFault → ℕ
model_fault_number NotJson = 1
model_fault_number Shape = 2
model_fault_number DuplicateName = 3
model_fault_number UnknownName = 4
model_fault_number Cycle = 5
model_fault_number FeatureClash = 6
model_fault_number BadMultiplicity = 7
model_fault_number Limit = 8
model_fault_number OutOfMemory = 9

-- A function on a JSON tree has the faults of its definition, but that memory may run out. A tree is JSON.
abbrev pub model_fault : ModelFault → FaultMeaning ModelFault
model_fault OutOfMemory = out_of_memory
model_fault NotJson = never
model_fault e = fault e

-- the fault of a class model whose bytes are no JSON text, or for which memory ran out
abbrev pub json_model_fault : JsonFault → ModelFault
json_model_fault json.NotJson = NotJson
json_model_fault json.OutOfMemory = OutOfMemory
