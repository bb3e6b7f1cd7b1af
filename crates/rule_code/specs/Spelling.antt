-- The one spelling of a unit, field after field.
use Rattle.std.specs.Prelude.{ℕ, List, [], ◌∷◌, ◌++◌, length, if◌then◌else◌}
use Rattle.std.specs.List.{flat_map}
use Rattle.std.specs.Int.{w64, to_be_bytes, cast_unsigned}
use Rattle.rule_code.specs.declared.instruction.Instr.{Instr}
use Rattle.rule_code.specs.declared.symbol.Symbol.{Symbol}
use Rattle.rule_code.specs.declared.symbol.Symbol.TheVariants as symbols
use Rattle.rule_code.specs.Content.{RuleContent, Content}
use Rattle.rule_code.specs.FileVersion.{version_number}
use Rattle.rule_code.specs.InstrRows.{FieldValue, integer_field, boolean_field, number_field, text_field, symbol_field, scalar_field, collection_field, kind_field, row_of}
use Rattle.rule_code.specs.NumberBytes.{number_bytes}
use Rattle.rule_code.specs.WrittenKinds.{scalar_bytes, collection_bytes, kind_bytes}

-- how many things, then the things
abbrev pub counted_bytes : {A : Type 0} → (A → List ℕ) → List A → List ℕ
counted_bytes item xs = number_bytes (length xs) ++ flat_map item xs

-- its length, then its bytes
abbrev pub text : List ℕ → List ℕ
text bytes = number_bytes (length bytes) ++ bytes

-- its tag, then the texts that name it
abbrev pub symbol : Symbol → List ℕ
symbol (symbols.Class c) = 0x01 ∷ number_bytes c.0
symbol (symbols.Enumeration e) = 0x02 ∷ number_bytes e.0
symbol (symbols.Feature c f) = 0x03 ∷ (number_bytes c.0 ++ number_bytes f.0)
symbol (symbols.Literal e l) = 0x04 ∷ (number_bytes e.0 ++ number_bytes l.0)

abbrev pub field_bytes : FieldValue → List ℕ
field_bytes (integer_field n) = to_be_bytes w64 (cast_unsigned w64 n)
field_bytes (boolean_field b) = (if b then 1 else 0) ∷ []
field_bytes (number_field n) = number_bytes n
field_bytes (text_field n) = number_bytes n
field_bytes (symbol_field tag n) = number_bytes n
field_bytes (scalar_field k) = scalar_bytes k
field_bytes (collection_field c k) = collection_bytes c k
field_bytes (kind_field k) = kind_bytes k

-- one field after the other
abbrev pub fields_bytes : List FieldValue → List ℕ
fields_bytes [] = []
fields_bytes (f ∷ fs) = field_bytes f ++ fields_bytes fs

-- its opcode, then its fields
abbrev pub instr : Instr → List ℕ
instr i = (row_of i).opcode ∷ fields_bytes (row_of i).fields

-- name, context class, instructions
abbrev pub rule : RuleContent → List ℕ
rule r = number_bytes r.name ++ number_bytes r.context ++ counted_bytes instr r.code

-- `OCLB`
abbrev pub magic : List ℕ
magic = 0x4f ∷ 0x43 ∷ 0x4c ∷ 0x42 ∷ []

-- magic, version, texts, symbols, rules
abbrev pub spelling : Content → List ℕ
spelling u = magic ++ number_bytes (version_number u.version) ++ counted_bytes text u.texts ++ counted_bytes symbol u.symbols ++ counted_bytes rule u.rules
