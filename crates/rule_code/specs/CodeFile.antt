-- The unit that bytes spell, or the first field that spells none.
use Rattle.std.specs.Prelude.{◌≡◌, ℕ, zero, suc, ◌-◌, List, [], ◌∷◌, length, take, drop, Result, Ok, Err, Option, Some, None, ◌==◌, if◌then◌else◌, bytes_eq}
use Rattle.std.specs.Int.{w16}
use Rattle.rule_code.specs.declared.fault.CodeFlaw.{CodeFlaw}
use Rattle.rule_code.specs.declared.fault.CodeFlaw.TheVariants as flaws
use Rattle.rule_code.specs.declared.fault.CodeFault.{CodeFault}
use Rattle.rule_code.specs.declared.fault.CodeFault.TheVariants as faults
use Rattle.rule_code.specs.declared.symbol.Symbol.{Symbol}
use Rattle.rule_code.specs.declared.unit.Unit as unit
use Rattle.rule_code.specs.declared.version.Version.{Version}
use Rattle.rule_code.specs.declared.version.Version.TheVariants as versions
use Rattle.rule_code.specs.Content.{RuleContent, Content}
use Rattle.rule_code.specs.Preamble.{Preamble}
use Rattle.rule_code.specs.declared.limits.TheConstants.{MAX_RULES}
use Rattle.rule_code.specs.View.{content}
use Rattle.rule_code.specs.Spelling.{magic}
use Rattle.ocl_base.specs.Steps.{◌>>=◌}
use Rattle.rule_code.specs.Reading.{Fault, FieldRead, wrong, number_from, count_from, many_from}
use Rattle.rule_code.specs.Parts.{text_from, symbol_from, next_rule_from}

-- the version, by its number
unfoldable pub version_from : List ℕ → FieldRead Version
version_from bytes = do
  n ← number_from w16 bytes
  if n.0 == 1 then Ok (versions.One, n.1) else (if n.0 == 2 then Ok (versions.Two, n.1) else wrong flaws.Version bytes)

-- the magic, then the version
unfoldable pub head_from : List ℕ → FieldRead Version
head_from bytes = if bytes_eq (take 4 bytes) magic then version_from (drop 4 bytes) else wrong flaws.Magic bytes

-- how many texts, then the texts
unfoldable pub texts_from : List ℕ → FieldRead (List (List ℕ))
texts_from bytes = do
  n ← number_from w16 bytes
  many_from (λ before. text_from) [] n.0 n.1

-- the first of so many texts, if there are any
abbrev pub first_of : ℕ → List ℕ → Result (Unit {0}) Fault
first_of zero bytes = Ok tt
first_of (suc n) bytes = do
  text ← text_from bytes
  Ok tt

-- how many texts, and the first of them
unfoldable pub first_text_from : List ℕ → Result (Unit {0}) Fault
first_text_from bytes = do
  n ← number_from w16 bytes
  first_of n.0 n.1

-- how many symbols, then the symbols
unfoldable pub symbols_from : ℕ → List ℕ → FieldRead (List Symbol)
symbols_from texts bytes = do
  n ← number_from w16 bytes
  many_from (λ before. symbol_from texts) [] n.0 n.1

-- how many rules, within the limit, then the rules
unfoldable pub rules_from : Preamble → List ℕ → FieldRead (List RuleContent)
rules_from p bytes = do
  n ← count_from MAX_RULES bytes
  many_from (next_rule_from p) [] n.0 n.1

-- nothing after the last rule
abbrev pub ended : Content → List ℕ → Result Content Fault
ended u [] = Ok u
ended u (b ∷ rest) = wrong flaws.Trailing (b ∷ rest)

-- all of the bytes
unfoldable pub whole_from : List ℕ → Result Content Fault
whole_from bytes = do
  version ← head_from bytes
  texts ← texts_from version.1
  symbols ← symbols_from (length texts.0) texts.1
  rules ← rules_from (record { version = version.0; texts = texts.0; symbols = symbols.0 }) symbols.1
  ended (record { version = version.0; texts = texts.0; symbols = symbols.0; rules = rules.0 }) rules.1

-- what is read before anything is allocated: magic, version, how many texts, and the first of them
unfoldable pub decided_from : List ℕ → Result (Unit {0}) Fault
decided_from bytes = do
  version ← head_from bytes
  first_text_from version.1

-- Behind magic and version there are no texts. Then nothing is allocated at all, since a symbol and a rule name texts.
pub record HasNoTexts (bytes : List ℕ) : Type 0 where
  pub version : Version
  pub rest : List ℕ
  pub after : List ℕ
  pub head : head_from bytes ≡ Ok (version, rest)
  pub count : number_from w16 rest ≡ Ok (0, after)

-- what is wrong, and the byte where the wrong field begins
pub record CodeFaultAt : Type 0 where
  pub flaw : CodeFlaw
  pub offset : ℕ

-- the offset of a fault, in a file of `size` bytes: the fault says how many were left
abbrev pub code_fault_at : ℕ → Fault → CodeFaultAt
code_fault_at size fault = record { flaw = fault.flaw; offset = size - fault.left }

abbrev pub with_offset : ℕ → Result Content Fault → Result Content CodeFaultAt
with_offset size (Ok u) = Ok u
with_offset size (Err fault) = Err (code_fault_at size fault)

-- the unit that the bytes spell, or the first fault
abbrev pub unit_of : List ℕ → Result Content CodeFaultAt
unit_of bytes = with_offset (length bytes) (whole_from bytes)

abbrev pub fault_part : Result Content CodeFaultAt → Option CodeFaultAt
fault_part (Ok u) = None
fault_part (Err fault) = Some fault

-- the first field in the order of the file that isn't whole or that the format forbids, if there is one
abbrev pub first_code_fault : List ℕ → Option CodeFaultAt
first_code_fault bytes = fault_part (unit_of bytes)

-- the fault that was answered is the first, unless memory ran out
abbrev pub IsFirstCodeFault : List ℕ → CodeFault → Type 0
IsFirstCodeFault bytes (faults.At flaw offset) = first_code_fault bytes ≡ Some (record { flaw = flaw; offset = offset })
IsFirstCodeFault bytes faults.OutOfMemory = Unit {0}

-- what was answered for the bytes is what they spell, unless memory ran out
abbrev pub CodeAnswers : List ℕ → Result unit.Unit CodeFault → Type 0
CodeAnswers bytes (Ok u) = unit_of bytes ≡ Ok (content u)
CodeAnswers bytes (Err faults.OutOfMemory) = Unit {0}
CodeAnswers bytes (Err (faults.At flaw offset)) = unit_of bytes ≡ Err (record { flaw = flaw; offset = offset })

-- a fault that is found before anything is allocated is answered, whatever memory there is
abbrev pub AnswersDecided : {U : Type 0} → List ℕ → Result U CodeFault → Type 0
AnswersDecided bytes result =
    (f : Fault) → decided_from bytes ≡ Err f → result ≡ Err (faults.At f.flaw (length bytes - f.left))

-- this unit was read, unless memory ran out
abbrev pub IsReadAs : Content → Result unit.Unit CodeFault → Type 0
IsReadAs v (Ok u) = content u ≡ v
IsReadAs v (Err fault) = fault ≡ faults.OutOfMemory
