-- The fields behind an opcode: their sorts, and how many bytes each takes.
use Rattle.std.specs.Prelude.{◌≡◌, ℕ, pos, false, List, [], ◌∷◌, length, Option, Some, None, Result, Ok, Err}
use Rattle.std.specs.Int.{w16}
use Rattle.std.specs.Option.{option_map}
use Rattle.ocl_base.specs.declared.collection_kind.CollectionKind.TheVariants as collections
use Rattle.rule_code.specs.declared.field_sort.FieldSort.{FieldSort}
use Rattle.rule_code.specs.declared.field_sort.FieldSort.TheVariants as sorts
use Rattle.rule_code.specs.declared.kind.WrittenScalar.TheVariants as scalars
use Rattle.rule_code.specs.declared.kind.WrittenKind.TheVariants as kinds
use Rattle.rule_code.specs.declared.opcodes.OpcodeRow.{OpcodeRow}
use Rattle.rule_code.specs.KindReading.{ScalarSort, itself, of_symbol, single_kind_from, collection_kind_from, kind_from}
use Rattle.rule_code.specs.Opcodes.{Fields, made, integer, boolean, number, text, symbol, scalar, collection, kind, integer_from, boolean_from}
use Rattle.rule_code.specs.Preamble.{Preamble}
use Rattle.rule_code.specs.Reading.{Fault, FieldRead, number_from, text_number_from, symbol_number_from}

-- the sorts of the fields of a row, whatever their values are
abbrev pub sorts_of : Fields → List FieldSort
sorts_of (made i) = []
sorts_of (integer next) = sorts.Integer ∷ sorts_of (next (pos 0))
sorts_of (boolean next) = sorts.Boolean ∷ sorts_of (next false)
sorts_of (number next) = sorts.Number ∷ sorts_of (next 0)
sorts_of (text next) = sorts.Text ∷ sorts_of (next (record { 0 = 0 }))
sorts_of (symbol tag next) = sorts.Symbol tag ∷ sorts_of (next (record { 0 = 0 }))
sorts_of (scalar next) = sorts.Scalar ∷ sorts_of (next scalars.Void)
sorts_of (collection next) = sorts.Collection ∷ sorts_of (next collections.Set scalars.Void)
sorts_of (kind next) = sorts.Kind ∷ sorts_of (next (kinds.Scalar scalars.Void))

-- the row that was found has fields of these sorts, or neither is there
abbrev pub HasSorts : Option OpcodeRow → Option (List FieldSort) → Type 0
HasSorts found wanted = option_map (λ r. r.fields.now) found ≡ wanted

-- the bytes behind what was read
abbrev pub rest_of : {A : Type 0} → FieldRead A → Result (List ℕ) Fault
rest_of (Ok x) = Ok x.1
rest_of (Err f) = Err f

-- the bytes behind a field of that sort
abbrev pub after_field : Preamble → FieldSort → List ℕ → Result (List ℕ) Fault
after_field p sorts.Integer bytes = rest_of (integer_from bytes)
after_field p sorts.Boolean bytes = rest_of (boolean_from bytes)
after_field p sorts.Number bytes = rest_of (number_from w16 bytes)
after_field p sorts.Text bytes = rest_of (text_number_from (length p.texts) bytes)
after_field p (sorts.Symbol tag) bytes = rest_of (symbol_number_from tag p.symbols bytes)
after_field p sorts.Scalar bytes = rest_of (single_kind_from p.symbols bytes)
after_field p sorts.Collection bytes = rest_of (collection_kind_from p.symbols bytes)
after_field p sorts.Kind bytes = rest_of (kind_from p.symbols bytes)

-- how many bytes the symbol of a kind has
abbrev pub symbol_width : Option ScalarSort → ℕ
symbol_width None = 0
symbol_width (Some (itself k)) = 0
symbol_width (Some (of_symbol tag make)) = 2
