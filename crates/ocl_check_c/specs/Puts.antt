-- What a caller gets of a command that has written a text, by how the command ended.
use Rattle.std.specs.Prelude.{◌≡◌, ℕ, List, length}
use Rattle.ocl_check.specs.declared.outcome.Outcome.{Outcome}
use Rattle.ocl_check.specs.declared.outcome.Outcome.TheVariants.{Status, Failed}
use Rattle.ocl_check_c.specs.Buffers.{copied}

abbrev pub IsPut : Outcome → List ℕ → ℕ → List ℕ → List ℕ → ℕ → Type 0
IsPut (Status s) text status old new wants = (status ≡ s) × (new ≡ copied text old) × (wants ≡ length text)
IsPut (Failed fault) text status old new wants = (status ≡ 3) × (new ≡ old) × (wants ≡ 0)
