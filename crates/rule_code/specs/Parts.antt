-- A text, a symbol and a rule of a code file, read from its fields.
use Rattle.std.specs.Prelude.{bytes_eq, ℕ, Bool, not, ◌&&◌, List, [], ◌∷◌, length, Ok, ◌==◌, if◌then◌else◌}
use Rattle.std.specs.Int.{w16}
use Rattle.rule_code.specs.declared.fault.CodeFlaw.TheVariants as flaws
use Rattle.rule_code.specs.declared.instruction.Instr.{Instr}
use Rattle.rule_code.specs.declared.symbol.Symbol.{Symbol}
use Rattle.rule_code.specs.declared.symbol.Symbol.TheVariants as symbols
use Rattle.rule_code.specs.declared.symbol.SymbolTag.TheVariants as tags
use Rattle.ocl_base.specs.Lists.{is_among}
use Rattle.ocl_base.specs.Words.{is_name}
use Rattle.rule_code.specs.Content.{RuleContent, text_at, names_of}
use Rattle.rule_code.specs.Preamble.{Preamble}
use Rattle.rule_code.specs.declared.limits.TheConstants.{MAX_TEXT_BYTES}
use Rattle.rule_code.specs.Opcodes.{instr_from}
use Rattle.ocl_base.specs.Steps.{◌>>=◌}
use Rattle.rule_code.specs.Reading.{FieldRead, wrong, number_from, count_from, text_number_from, symbol_number_from, text_bytes_from, many_from}

-- a length within the limit, then the bytes
unfoldable pub text_from : List ℕ → FieldRead (List ℕ)
text_from bytes = do
  n ← count_from MAX_TEXT_BYTES bytes
  text_bytes_from n.0 n.1

-- one text that names a symbol
abbrev pub named_once_from : ℕ → (ℕ → Symbol) → List ℕ → FieldRead Symbol
named_once_from texts make bytes = do
  n ← text_number_from texts bytes
  Ok (make n.0, n.1)

-- two texts that name a symbol
abbrev pub named_twice_from : ℕ → (ℕ → ℕ → Symbol) → List ℕ → FieldRead Symbol
named_twice_from texts make bytes = do
  m ← text_number_from texts bytes
  n ← text_number_from texts m.1
  Ok (make m.0 n.0, n.1)

-- a tag, then one or two texts
unfoldable pub symbol_from : ℕ → List ℕ → FieldRead Symbol
symbol_from texts [] = wrong flaws.Truncated []
symbol_from texts (tag ∷ rest) =
    if tag == 1 then named_once_from texts (λ c. symbols.Class (record { 0 = c })) rest else (
    if tag == 2 then named_once_from texts (λ e. symbols.Enumeration (record { 0 = e })) rest else (
    if tag == 3 then named_twice_from texts (λ c f. symbols.Feature (record { 0 = c }) (record { 0 = f })) rest else (
    if tag == 4 then named_twice_from texts (λ e l. symbols.Literal (record { 0 = e }) (record { 0 = l })) rest else
    wrong flaws.BadNumber (tag ∷ rest))))

-- the text of a name that isn't taken
unfoldable pub rule_name_from : List (List ℕ) → (List ℕ → Bool) → List ℕ → FieldRead ℕ
rule_name_from texts is_name_taken bytes = do
  n ← text_number_from (length texts) bytes
  if is_name (text_at texts n.0) && not (is_name_taken (text_at texts n.0)) then Ok n else wrong flaws.BadText bytes

-- how many instructions, then the instructions
unfoldable pub code_from : Preamble → List ℕ → FieldRead (List Instr)
code_from p bytes = do
  n ← number_from w16 bytes
  many_from (λ before. instr_from p) [] n.0 n.1

-- a name, a context class, the instructions
unfoldable pub rule_from : Preamble → (List ℕ → Bool) → List ℕ → FieldRead RuleContent
rule_from p is_name_taken bytes = do
  name ← rule_name_from p.texts is_name_taken bytes
  context ← symbol_number_from tags.Class p.symbols name.1
  code ← code_from p context.1
  Ok (record { name = name.0; context = context.0; code = code.0 }, code.1)

-- a rule whose name none of those before it has
abbrev pub next_rule_from : Preamble → List RuleContent → List ℕ → FieldRead RuleContent
next_rule_from p before = rule_from p (is_among bytes_eq (names_of p.texts before))
