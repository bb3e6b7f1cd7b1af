-- The class model that bytes describe, or their first fault.
use Rattle.std.specs.Prelude.{◌≡◌, ℕ, ◌||◌, List, Result, Ok, Err, not}
use Rattle.std.specs.List.{list_all}
use Rattle.serde_json.specs.Data.{Data}
use Rattle.imkl_model.specs.declared.fault.ModelFault.{ModelFault}
use Rattle.imkl_model.specs.declared.fault.ModelFault.TheVariants.{NotJson, DuplicateName, Cycle, FeatureClash, BadMultiplicity, Limit, OutOfMemory}
use Rattle.imkl_model.specs.ClassModel.{Model, supers, has_clash}
use Rattle.imkl_model.specs.Renames.{renames_clash}
use Rattle.imkl_model.specs.Chains.{is_cyclic}
use Rattle.imkl_json.specs.Json.{IsTree, IsNoTree}
use Rattle.ocl_base.specs.Steps.{◌>>=◌, check}
use Rattle.imkl_model.specs.Shape.{written_from}
use Rattle.imkl_model.specs.Checks.{is_within_limits, repeats_name, has_multiplicity}
use Rattle.imkl_model.specs.Numbering.{numbered_model}

-- the last checks, over numbers
unfoldable pub checked_model : Model → Result Model ModelFault
checked_model m = do
  _ ← check (not (is_cyclic (supers m))) Cycle
  _ ← check (not (has_clash m || renames_clash m)) FeatureClash
  _ ← check (list_all has_multiplicity m.features) BadMultiplicity
  Ok m

-- What a JSON tree describes, or its first fault: each line checks what it says.
unfoldable pub describes_model : Data → Result Model ModelFault
describes_model d = do
  w ← written_from d
  _ ← check (is_within_limits w) Limit
  _ ← check (not (repeats_name w)) DuplicateName
  m ← numbered_model w
  checked_model m

-- A fault that the bytes have. NotJson is for bytes that are no tree's. Memory may run out anywhere.
abbrev pub IsModelFault : ModelFault → List ℕ → Type 0
IsModelFault OutOfMemory bytes = Unit {0}
IsModelFault NotJson bytes = IsNoTree bytes
IsModelFault fault bytes = (d : Data) × IsTree bytes d × (describes_model d ≡ Err fault)

-- what reading answers: the model that the tree describes, or its first fault
abbrev pub ModelAnswers : List ℕ → Result Model ModelFault → Type 0
ModelAnswers bytes (Ok m) = (d : Data) × IsTree bytes d × (describes_model d ≡ Ok m)
ModelAnswers bytes (Err e) = IsModelFault e bytes
