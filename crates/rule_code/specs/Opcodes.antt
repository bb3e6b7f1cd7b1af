-- The table of opcodes, and how an instruction is read by it.
use Rattle.std.specs.Prelude.{ℕ, zero, suc, ℤ, Bool, true, false, List, [], ◌∷◌, ◌++◌, length, Option, Some, None, Ok, if◌then◌else◌}
use Rattle.std.specs.Int.{w16, w64, cast_signed}
use Rattle.ocl_base.specs.declared.collection_kind.CollectionKind.{CollectionKind}
use Rattle.rule_code.specs.declared.fault.CodeFlaw.TheVariants as flaws
use Rattle.rule_code.specs.declared.instruction.Instr.{Instr}
use Rattle.rule_code.specs.declared.instruction.Instr.TheVariants as instrs
use Rattle.rule_code.specs.declared.kind.WrittenScalar.{WrittenScalar}
use Rattle.rule_code.specs.declared.kind.WrittenKind.{WrittenKind}
use Rattle.rule_code.specs.declared.symbol.SymbolNumber.{SymbolNumber}
use Rattle.rule_code.specs.declared.symbol.SymbolTag.{SymbolTag}
use Rattle.rule_code.specs.declared.symbol.SymbolTag.TheVariants as tags
use Rattle.rule_code.specs.declared.symbol.TextNumber.{TextNumber}
use Rattle.rule_code.specs.declared.version.Version.{Version}
use Rattle.rule_code.specs.FileVersion.{has_fold}
use Rattle.rule_code.specs.Preamble.{Preamble}
use Rattle.ocl_base.specs.Steps.{◌>>=◌}
use Rattle.rule_code.specs.Reading.{FieldRead, wrong, number_from, text_number_from, symbol_number_from}
use Rattle.rule_code.specs.KindReading.{row_numbered, single_kind_from, collection_kind_from, kind_from}

-- the fields behind an opcode, one after the other, with the instruction that they make
pub data Fields : Type 0 where
  made : Instr → Fields
  integer : (ℤ → Fields) → Fields
  boolean : (Bool → Fields) → Fields
  number : (ℕ → Fields) → Fields
  text : (TextNumber → Fields) → Fields
  symbol : SymbolTag → (SymbolNumber → Fields) → Fields
  scalar : (WrittenScalar → Fields) → Fields
  collection : (CollectionKind → WrittenScalar → Fields) → Fields
  kind : (WrittenKind → Fields) → Fields

-- the instructions without fields
abbrev pub plain_opcodes : List (ℕ × Fields)
plain_opcodes = (0x01, made instrs.SelfObject)
    ∷ (0x07, made instrs.Null)
    ∷ (0x08, made instrs.Invalid)
    ∷ (0x10, made instrs.Add)
    ∷ (0x11, made instrs.Sub)
    ∷ (0x12, made instrs.Mul)
    ∷ (0x13, made instrs.Div)
    ∷ (0x14, made instrs.Mod)
    ∷ (0x15, made instrs.Neg)
    ∷ (0x16, made instrs.Abs)
    ∷ (0x17, made instrs.Min)
    ∷ (0x18, made instrs.Max)
    ∷ (0x19, made instrs.Lt)
    ∷ (0x1a, made instrs.Le)
    ∷ (0x1b, made instrs.Gt)
    ∷ (0x1c, made instrs.Ge)
    ∷ (0x20, made instrs.Not)
    ∷ (0x21, made instrs.And)
    ∷ (0x22, made instrs.Or)
    ∷ (0x23, made instrs.Xor)
    ∷ (0x24, made instrs.Implies)
    ∷ (0x29, made instrs.Eqx)
    ∷ (0x2a, made instrs.Undef)
    ∷ (0x2b, made instrs.IsInv)
    ∷ (0x2c, made instrs.TLen)
    ∷ (0x2d, made instrs.SubStr)
    ∷ (0x30, made instrs.Size)
    ∷ (0x31, made instrs.IsEmpty)
    ∷ (0x36, made instrs.Sum)
    ∷ []

-- those that put a variable, a constant or a part of the class model on the stack, or ask of a class
abbrev pub value_opcodes : List (ℕ × Fields)
value_opcodes = (0x02, number (λ n. made (instrs.Get n)))
    ∷ (0x03, integer (λ n. made (instrs.Int n)))
    ∷ (0x04, boolean (λ b. made (instrs.Bool b)))
    ∷ (0x05, text (λ t. made (instrs.Text t)))
    ∷ (0x06, symbol tags.Literal (λ s. made (instrs.Enum s)))
    ∷ (0x09, symbol tags.Feature (λ s. made (instrs.Attr s)))
    ∷ (0x0a, symbol tags.Class (λ s. made (instrs.All s)))
    ∷ (0x0b, collection (λ c k. made (instrs.AsColl c k)))
    ∷ (0x0c, symbol tags.Class (λ s. made (instrs.KindOf s)))
    ∷ (0x0d, symbol tags.Class (λ s. made (instrs.TypeOf s)))
    ∷ (0x0e, symbol tags.Class (λ s. made (instrs.AsType s)))
    ∷ []

-- operations on values of a written kind
abbrev pub operation_opcodes : List (ℕ × Fields)
operation_opcodes = (0x28, kind (λ k. made (instrs.Eq k)))
    ∷ (0x32, scalar (λ k. made (instrs.Includes k)))
    ∷ (0x33, scalar (λ k. made (instrs.Count k)))
    ∷ (0x34, scalar (λ k. made (instrs.IncAll k)))
    ∷ (0x35, scalar (λ k. made (instrs.ExcAll k)))
    ∷ (0x37, scalar (λ k. made (instrs.AsSet k)))
    ∷ []

-- blocks, with the lengths of their bodies
abbrev pub block_opcodes : List (ℕ × Fields)
block_opcodes = (0x40, number (λ n. made (instrs.Let n)))
    ∷ (0x41, kind (λ k. number (λ n. number (λ m. made (instrs.If k n m)))))
    ∷ (0x42, number (λ n. made (instrs.ForAll n)))
    ∷ (0x43, number (λ n. made (instrs.Exists n)))
    ∷ (0x44, number (λ n. made (instrs.One n)))
    ∷ (0x45, number (λ n. made (instrs.Select n)))
    ∷ (0x46, number (λ n. made (instrs.Reject n)))
    ∷ (0x47, number (λ n. made (instrs.Collect n)))
    ∷ (0x48, number (λ n. made (instrs.CollectFlat n)))
    ∷ (0x49, scalar (λ k. number (λ n. made (instrs.IsUnique k n))))
    ∷ []

-- those that the second version alone has
abbrev pub fold_opcodes : Version → List (ℕ × Fields)
fold_opcodes v = if has_fold v then (0x4a, scalar (λ k. number (λ n. made (instrs.Fold k n)))) ∷ [] else []

-- The opcodes of a version. Every other byte is no opcode.
abbrev pub opcodes : Version → List (ℕ × Fields)
opcodes v = plain_opcodes ++ value_opcodes ++ operation_opcodes ++ block_opcodes ++ fold_opcodes v

-- eight bytes, two's complement
unfoldable pub integer_from : List ℕ → FieldRead ℤ
integer_from bytes = do
  n ← number_from w64 bytes
  Ok (cast_signed w64 n.0, n.1)

-- one byte, 0 or 1
unfoldable pub boolean_from : List ℕ → FieldRead Bool
boolean_from [] = wrong flaws.Truncated []
boolean_from (zero ∷ rest) = Ok (false, rest)
boolean_from (suc zero ∷ rest) = Ok (true, rest)
boolean_from (suc (suc b) ∷ rest) = wrong flaws.BadNumber (suc (suc b) ∷ rest)

-- the fields of a row, read by what stands before the rules
abbrev pub fields_from : Preamble → Fields → List ℕ → FieldRead Instr
fields_from p (made i) rest = Ok (i, rest)
fields_from p (integer next) rest = do
  n ← integer_from rest
  fields_from p (next n.0) n.1
fields_from p (boolean next) rest = do
  b ← boolean_from rest
  fields_from p (next b.0) b.1
fields_from p (number next) rest = do
  n ← number_from w16 rest
  fields_from p (next n.0) n.1
fields_from p (text next) rest = do
  t ← text_number_from (length p.texts) rest
  fields_from p (next (record { 0 = t.0 })) t.1
fields_from p (symbol tag next) rest = do
  s ← symbol_number_from tag p.symbols rest
  fields_from p (next (record { 0 = s.0 })) s.1
fields_from p (scalar next) rest = do
  k ← single_kind_from p.symbols rest
  fields_from p (next k.0) k.1
fields_from p (collection next) rest = do
  k ← collection_kind_from p.symbols rest
  fields_from p (next k.0.0 k.0.1) k.1
fields_from p (kind next) rest = do
  k ← kind_from p.symbols rest
  fields_from p (next k.0) k.1

-- what stands behind an opcode, by its row of the table
abbrev pub behind : Preamble → Option Fields → List ℕ → List ℕ → FieldRead Instr
behind p None here rest = wrong flaws.BadOpcode here
behind p (Some row) here rest = fields_from p row rest

unfoldable pub instr_from : Preamble → List ℕ → FieldRead Instr
instr_from p [] = wrong flaws.Truncated []
instr_from p (opcode ∷ rest) = behind p (row_numbered (opcodes p.version) opcode) (opcode ∷ rest) rest
