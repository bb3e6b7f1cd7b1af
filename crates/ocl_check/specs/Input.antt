-- What reading an input takes of its reader.
use Rattle.std.specs.Prelude.{◌≡◌, ℕ, ◌≤◌, ◌<◌, ◌⊎◌, Bool, true, List, Option, length}
use Rattle.std.specs.Io.KnownBytes.{Consumes}

-- a prefix of at most n bytes was read
abbrev pub ConsumesAtMost : Option (List ℕ) → Option (List ℕ) → ℕ → Type 0
ConsumesAtMost old new n = (bytes : List ℕ) × Consumes old new bytes × (length bytes ≤ n)

-- a prefix of more than n bytes was read
abbrev pub ConsumesMore : Option (List ℕ) → Option (List ℕ) → ℕ → Type 0
ConsumesMore old new n = (bytes : List ℕ) × Consumes old new bytes × (n < length bytes)

-- an input can't be read within a limit: a read failed, or more bytes were read
abbrev pub CantBeRead : ℕ → Option (List ℕ) → Option (List ℕ) → Bool → Type 0
CantBeRead limit old new has_failed = (has_failed ≡ true) ⊎ ConsumesMore old new limit
