-- The sources that a command reads one after another, each whole.
use Rattle.std.specs.Prelude.{◌≡◌, ◌≤◌, ◌+◌, ◌⊎◌, ℕ, Bool, true, false, List, Option, Result, Ok, Err, ⊤}
use Rattle.std.specs.Io.KnownBytes.{IsAtEnd}
use Rattle.ocl_check.specs.declared.input.TheConstants.{MAX_INPUT}
use Rattle.ocl_check.specs.declared.input.InputFault.{InputFault}
use Rattle.ocl_check.specs.declared.input.InputFault.TheVariants as input
use Rattle.ocl_check.specs.Input.{CantBeRead, ConsumesAtMost}

-- a source before and after a command: the bytes that it had and has left, where they are known, whether a read of it has
-- failed, how many were made, and what it means that it is as it was
pub record Used : Type 1 where
  pub had : Option (List ℕ)
  pub left : Option (List ℕ)
  pub has_failed : Bool
  pub reads : ℕ
  pub IsUntouched : Type 0

abbrev pub used : {S : Type 0} → (S → Option (List ℕ)) → (S → Bool) → (S → ℕ) → S → S → Used
used remaining has_failed reads old new = record { had = remaining old; left = remaining new; has_failed = has_failed new; reads = reads new; IsUntouched = new ≡ old }

-- sources in the order in which they are read
infixl 4 ◌then◌
pub data Sources : Type 1 where
  none : Sources
  ◌then◌ : (before : Sources) (source : Used) → Sources

abbrev pub Each : (Used → Type 0) → Sources → Type 0
Each Fact none = ⊤
Each Fact (before then source) = Each Fact before × Fact source

abbrev pub Any : (Used → Type 0) → Sources → Type 0
Any Fact none = ⊥
Any Fact (before then source) = Any Fact before ⊎ Fact source

-- a source is as it was, unless the one before it has ended
abbrev pub InTurn : Sources → Type 0
InTurn none = ⊤
InTurn (none then source) = ⊤
InTurn ((before then last) then source) = InTurn (before then last) × (IsAtEnd last.left ⊎ source.IsUntouched)

-- whatever is answered, at most one byte more than the limit is read of a source, by at most as many reads
pub record IsReadWithinLimits (source : Used) : Type 0 where
  pub bytes : ConsumesAtMost source.had source.left (MAX_INPUT + 1)
  pub few : source.reads ≤ MAX_INPUT + 1

-- how sources were read, where a command did or didn't fail for a read
pub record ReadsInOrder (sources : Sources) (fails : Bool) : Type 0 where
  pub limits : Each IsReadWithinLimits sources
  -- it fails only where one can't be read, and always where a read has failed
  pub fault : fails ≡ true → Any (λ s. CantBeRead MAX_INPUT s.had s.left s.has_failed) sources
  pub failed : Each (λ s. s.has_failed ≡ true → fails ≡ true) sources
  -- unless it does, no more than the limit was read of each
  pub within : fails ≡ false → Each (λ s. ConsumesAtMost s.had s.left MAX_INPUT) sources
  pub order : InTurn sources

-- an input can't be had for a read
abbrev pub is_for_read : InputFault → Bool
is_for_read input.Read = true
is_for_read input.OutOfMemory = false

abbrev pub fails_for_read : {A : Type 0} → Result A InputFault → Bool
fails_for_read (Ok x) = false
fails_for_read (Err fault) = is_for_read fault
