-- The versions of the code file.
use Rattle.std.specs.Prelude.{ℕ, Bool, true, false}
use Rattle.rule_code.specs.declared.instruction.Instr.{Instr}
use Rattle.rule_code.specs.declared.instruction.Instr.TheVariants as instrs
use Rattle.rule_code.specs.declared.version.Version.{Version}
use Rattle.rule_code.specs.declared.version.Version.TheVariants as versions

-- the number that a file has for its version
abbrev pub version_number : Version → ℕ
version_number versions.One = 1
version_number versions.Two = 2

-- the version has FOLD, which the first has not
abbrev pub has_fold : Version → Bool
has_fold versions.One = false
has_fold versions.Two = true

-- the version has the instruction: each has every other
abbrev pub has_instr : Version → Instr → Bool
has_instr v (instrs.Fold k n) = has_fold v
has_instr v i = true
