-- What holds of the readings of rule texts.
use Rattle.std.specs.Prelude.{◌≡◌, ◌⊎◌, ℕ, Bool, true, false, List, Ok, Err}
use Rattle.ocl_tokens.specs.declared.fault.TextFlaw.{TextFlaw}
use Rattle.ocl_tokens.specs.declared.fault.TextFlaw.TheVariants.{Syntax, TooDeep}
use Rattle.ocl_pipeline.specs.TextReading.{TextReading, ReadsAs}

-- all bytes are read as rules, or as a flaw
abbrev pub EachTextIsRead : Type 0
EachTextIsRead = (bytes : List ℕ) → (t : TextReading) × ReadsAs bytes t

-- the tokens are refused: there any offset will do that the grammar's rules allow, and either of the two flaws
abbrev pub is_loose_flaw : TextFlaw → Bool
is_loose_flaw Syntax = true
is_loose_flaw TooDeep = true
is_loose_flaw flaw = false

abbrev pub is_loose : TextReading → Bool
is_loose (Ok rules) = false
is_loose (Err fault) = is_loose_flaw fault.flaw

-- all bytes are read in one way, unless their tokens are refused
abbrev pub ReadingsAreDetermined : Type 0
ReadingsAreDetermined =
    (bytes : List ℕ) (t u : TextReading) → ReadsAs bytes t → ReadsAs bytes u
    → ((is_loose t ≡ true) × (is_loose u ≡ true)) ⊎ (t ≡ u)
