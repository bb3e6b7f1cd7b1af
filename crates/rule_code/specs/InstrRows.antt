-- The instructions: each has its opcode and its fields, in one row.
use Rattle.std.specs.Prelude.{ℕ, ℤ, Bool, List, [], ◌∷◌}
use Rattle.ocl_base.specs.declared.collection_kind.CollectionKind.{CollectionKind}
use Rattle.rule_code.specs.declared.instruction.Instr.{Instr}
use Rattle.rule_code.specs.declared.instruction.Instr.TheVariants as instrs
use Rattle.rule_code.specs.declared.kind.WrittenScalar.{WrittenScalar}
use Rattle.rule_code.specs.declared.kind.WrittenKind.{WrittenKind}
use Rattle.rule_code.specs.declared.symbol.SymbolTag.{SymbolTag}
use Rattle.rule_code.specs.declared.symbol.SymbolTag.TheVariants as tags

-- A field with its value: an Integer, a Boolean, a number of 16 bits, the number of a text, the number of a symbol that
-- names that sort of thing, the kind of a single value, that of a collection, and any kind.
pub data FieldValue : Type 0 where
  integer_field : ℤ → FieldValue
  boolean_field : Bool → FieldValue
  number_field : ℕ → FieldValue
  text_field : ℕ → FieldValue
  symbol_field : SymbolTag → ℕ → FieldValue
  scalar_field : WrittenScalar → FieldValue
  collection_field : CollectionKind → WrittenScalar → FieldValue
  kind_field : WrittenKind → FieldValue

pub record InstrRow : Type 0 where
  pub opcode : ℕ
  pub fields : List FieldValue

abbrev pub instr_row : ℕ → List FieldValue → InstrRow
instr_row opcode fields = record { opcode = opcode; fields = fields }

abbrev pub row_of : Instr → InstrRow
row_of instrs.SelfObject = instr_row 0x01 []
row_of (instrs.Get n) = instr_row 0x02 (number_field n ∷ [])
row_of (instrs.Int n) = instr_row 0x03 (integer_field n ∷ [])
row_of (instrs.Bool b) = instr_row 0x04 (boolean_field b ∷ [])
row_of (instrs.Text t) = instr_row 0x05 (text_field t.0 ∷ [])
row_of (instrs.Enum s) = instr_row 0x06 (symbol_field tags.Literal s.0 ∷ [])
row_of instrs.Null = instr_row 0x07 []
row_of instrs.Invalid = instr_row 0x08 []
row_of (instrs.Attr s) = instr_row 0x09 (symbol_field tags.Feature s.0 ∷ [])
row_of (instrs.All s) = instr_row 0x0a (symbol_field tags.Class s.0 ∷ [])
row_of (instrs.AsColl c k) = instr_row 0x0b (collection_field c k ∷ [])
row_of (instrs.KindOf s) = instr_row 0x0c (symbol_field tags.Class s.0 ∷ [])
row_of (instrs.TypeOf s) = instr_row 0x0d (symbol_field tags.Class s.0 ∷ [])
row_of (instrs.AsType s) = instr_row 0x0e (symbol_field tags.Class s.0 ∷ [])
row_of instrs.Add = instr_row 0x10 []
row_of instrs.Sub = instr_row 0x11 []
row_of instrs.Mul = instr_row 0x12 []
row_of instrs.Div = instr_row 0x13 []
row_of instrs.Mod = instr_row 0x14 []
row_of instrs.Neg = instr_row 0x15 []
row_of instrs.Abs = instr_row 0x16 []
row_of instrs.Min = instr_row 0x17 []
row_of instrs.Max = instr_row 0x18 []
row_of instrs.Lt = instr_row 0x19 []
row_of instrs.Le = instr_row 0x1a []
row_of instrs.Gt = instr_row 0x1b []
row_of instrs.Ge = instr_row 0x1c []
row_of instrs.Not = instr_row 0x20 []
row_of instrs.And = instr_row 0x21 []
row_of instrs.Or = instr_row 0x22 []
row_of instrs.Xor = instr_row 0x23 []
row_of instrs.Implies = instr_row 0x24 []
row_of (instrs.Eq k) = instr_row 0x28 (kind_field k ∷ [])
row_of instrs.Eqx = instr_row 0x29 []
row_of instrs.Undef = instr_row 0x2a []
row_of instrs.IsInv = instr_row 0x2b []
row_of instrs.TLen = instr_row 0x2c []
row_of instrs.SubStr = instr_row 0x2d []
row_of instrs.Size = instr_row 0x30 []
row_of instrs.IsEmpty = instr_row 0x31 []
row_of (instrs.Includes k) = instr_row 0x32 (scalar_field k ∷ [])
row_of (instrs.Count k) = instr_row 0x33 (scalar_field k ∷ [])
row_of (instrs.IncAll k) = instr_row 0x34 (scalar_field k ∷ [])
row_of (instrs.ExcAll k) = instr_row 0x35 (scalar_field k ∷ [])
row_of instrs.Sum = instr_row 0x36 []
row_of (instrs.AsSet k) = instr_row 0x37 (scalar_field k ∷ [])
row_of (instrs.Let n) = instr_row 0x40 (number_field n ∷ [])
row_of (instrs.If k n m) = instr_row 0x41 (kind_field k ∷ number_field n ∷ number_field m ∷ [])
row_of (instrs.ForAll n) = instr_row 0x42 (number_field n ∷ [])
row_of (instrs.Exists n) = instr_row 0x43 (number_field n ∷ [])
row_of (instrs.One n) = instr_row 0x44 (number_field n ∷ [])
row_of (instrs.Select n) = instr_row 0x45 (number_field n ∷ [])
row_of (instrs.Reject n) = instr_row 0x46 (number_field n ∷ [])
row_of (instrs.Collect n) = instr_row 0x47 (number_field n ∷ [])
row_of (instrs.CollectFlat n) = instr_row 0x48 (number_field n ∷ [])
row_of (instrs.IsUnique k n) = instr_row 0x49 (scalar_field k ∷ number_field n ∷ [])
row_of (instrs.Fold k n) = instr_row 0x4a (scalar_field k ∷ number_field n ∷ [])
