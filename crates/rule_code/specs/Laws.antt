-- Laws of code files.
use Rattle.std.specs.Prelude.{◌≡◌, ◌⊎◌, ◌≤◌, ◌<◌, ◌+◌, ℕ, Bool, true, false, List, [], ◌++◌, length, take, Option, Some, None}
use Rattle.std.specs.Option.{option_map}
use Rattle.rule_code.specs.declared.fault.CodeFlaw.{CodeFlaw}
use Rattle.rule_code.specs.declared.fault.CodeFlaw.TheVariants as flaws
use Rattle.rule_code.specs.declared.limits.TheConstants.{MAX_TEXT_BYTES}
use Rattle.rule_code.specs.CodeFile.{CodeFaultAt, first_code_fault}

-- no field has more bytes
abbrev pub most_field_bytes : ℕ
most_field_bytes = MAX_TEXT_BYTES

-- a field may be wrong because the file ends within it
abbrev pub may_be_cut : CodeFlaw → Bool
may_be_cut flaws.Magic = true
may_be_cut flaws.Truncated = true
may_be_cut flaw = false

-- What is wrong with a file that ends within a field of this fault: of the magic it is the magic, behind the last rule
-- nothing, and else the field is cut off.
abbrev pub cut_flaw : CodeFlaw → Option CodeFlaw
cut_flaw flaws.Magic = Some flaws.Magic
cut_flaw flaws.Trailing = None
cut_flaw flaw = Some flaws.Truncated

abbrev pub fault_of_cut : CodeFaultAt → Option CodeFaultAt
fault_of_cut fault = option_map (λ flaw. record { flaw = flaw; offset = fault.offset }) (cut_flaw fault.flaw)

-- The wrong field begins at the offset, in the file or at its end, and ends with `through`.
pub record IsOfField (bytes : List ℕ) (fault : CodeFaultAt) : Type 0 where
  pub through : List ℕ
  pub rest : List ℕ
  pub parts : bytes ≡ through ++ rest
  pub begins : fault.offset ≤ length through
  pub short : length through ≤ fault.offset + most_field_bytes
  -- a file that ends where the field begins, or within it, is wrong there
  pub cut : (k : ℕ) → fault.offset + k < length through → first_code_fault (take (fault.offset + k) through) ≡ fault_of_cut fault
  -- what follows the field doesn't matter, unless the end of the file cuts the field
  pub stays : ((may_be_cut fault.flaw ≡ true) × (rest ≡ [])) ⊎ ((more : List ℕ) → first_code_fault (through ++ more) ≡ Some fault)

abbrev pub FaultsAreOfFields : Type 0
FaultsAreOfFields = (bytes : List ℕ) (fault : CodeFaultAt) → first_code_fault bytes ≡ Some fault → IsOfField bytes fault
