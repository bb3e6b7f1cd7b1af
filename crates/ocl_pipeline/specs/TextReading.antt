-- What the bytes of a rule text are read as.
use Rattle.std.specs.Prelude.{◌≡◌, ◌⊎◌, ℕ, Bool, true, false, List, Result, Ok, Err, ⊤}
use Rattle.std.specs.Str.{is_utf8}
use Rattle.std.specs.Str.Lossy.{utf8_valid_len}
use Rattle.ocl_tokens.specs.declared.fault.TextFault.{TextFault}
use Rattle.ocl_tokens.specs.declared.fault.TextFault.TheVariants as text
use Rattle.ocl_tokens.specs.declared.fault.TextFlaw.{TextFlaw}
use Rattle.ocl_tokens.specs.declared.fault.TextFlaw.TheVariants.{BadCharacter, Syntax, TooDeep, DuplicateRule}
use Rattle.ocl_tokens.specs.Lexical.{HasFlaw}
use Rattle.ocl_text.specs.declared.rule_text.TheConstants.{MAX_NESTING, MAX_CHAIN}
use Rattle.ocl_text.specs.Tree.{Rule}
use Rattle.ocl_text.specs.RuleText.{TextSpellsWithin, NamesDiffer, IsWrong, IsTooDeep, IsRepeated}

-- what is wrong, and at which byte
pub record TextFaultAt : Type 0 where
  pub flaw : TextFlaw
  pub offset : ℕ

abbrev pub text_fault_at : TextFlaw → ℕ → TextFaultAt
text_fault_at flaw offset = record { flaw = flaw; offset = offset }

-- the rules of a text, or what is wrong with it
abbrev pub TextReading : Type 0
TextReading = Result (List Rule) TextFaultAt

-- the tokens of a text are wrong or too deep at an offset, or there is the first rule whose name an earlier one has
abbrev pub HasRuleFlaw : List ℕ → TextFlaw → ℕ → Type 0
HasRuleFlaw text Syntax offset = IsWrong text offset
HasRuleFlaw text TooDeep offset = IsTooDeep MAX_NESTING MAX_CHAIN text offset
HasRuleFlaw text DuplicateRule offset = IsRepeated MAX_NESTING MAX_CHAIN text offset
HasRuleFlaw text flaw offset = ⊥

-- a text has a flaw at an offset, of its tokens or of its rules
abbrev pub HasTextFlaw : List ℕ → TextFlaw → ℕ → Type 0
HasTextFlaw text flaw offset = HasFlaw text flaw offset ⊎ HasRuleFlaw text flaw offset

-- a text in UTF-8 is read as the rules that it spells, whose names differ, or as a flaw that it has
abbrev pub TextReadsAs : List ℕ → TextReading → Type 0
TextReadsAs text (Ok rules) = TextSpellsWithin MAX_NESTING MAX_CHAIN text rules × NamesDiffer rules
TextReadsAs text (Err fault) = HasTextFlaw text fault.flaw fault.offset

-- Bytes that aren't UTF-8 have a bad character where the first ill-formed sequence begins. All bytes are read in one
-- way, but for Syntax and TooDeep, which may be reported of different tokens.
abbrev pub BytesReadAs : Bool → List ℕ → TextReading → Type 0
BytesReadAs true bytes t = TextReadsAs bytes t
BytesReadAs false bytes t = t ≡ Err (text_fault_at BadCharacter (utf8_valid_len bytes))

abbrev pub ReadsAs : List ℕ → TextReading → Type 0
ReadsAs bytes t = BytesReadAs (is_utf8 bytes) bytes t

-- a fault that was returned is a reading of the bytes, unless memory ran out
abbrev pub IsFaultRead : List ℕ → TextFault → Type 0
IsFaultRead bytes (text.At flaw offset) = ReadsAs bytes (Err (text_fault_at flaw offset))
IsFaultRead bytes text.OutOfMemory = ⊤
