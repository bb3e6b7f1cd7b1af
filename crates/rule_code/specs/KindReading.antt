-- How a kind is read: its byte, then its symbol, if it has one.
use Rattle.std.specs.Prelude.{ℕ, ◌/◌, ◌%◌, List, [], ◌∷◌, Option, Some, None, Ok, nat_lt, ◌==◌, if◌then◌else◌}
use Rattle.ocl_base.specs.declared.collection_kind.CollectionKind.{CollectionKind}
use Rattle.ocl_base.specs.declared.collection_kind.CollectionKind.TheVariants as collection
use Rattle.ocl_base.specs.Steps.{◌>>=◌}
use Rattle.rule_code.specs.declared.fault.CodeFlaw.TheVariants as flaws
use Rattle.rule_code.specs.declared.kind.WrittenScalar.{WrittenScalar}
use Rattle.rule_code.specs.declared.kind.WrittenScalar.TheVariants as scalars
use Rattle.rule_code.specs.declared.kind.WrittenKind.{WrittenKind}
use Rattle.rule_code.specs.declared.kind.WrittenKind.TheVariants as kinds
use Rattle.rule_code.specs.declared.symbol.Symbol.{Symbol}
use Rattle.rule_code.specs.declared.symbol.SymbolNumber.{SymbolNumber}
use Rattle.rule_code.specs.declared.symbol.SymbolTag.{SymbolTag}
use Rattle.rule_code.specs.declared.symbol.SymbolTag.TheVariants as tags
use Rattle.rule_code.specs.Reading.{FieldRead, wrong, symbol_number_from}

-- the row of a table that has this number
abbrev pub row_numbered : {R : Type 0} → List (ℕ × R) → ℕ → Option R
row_numbered [] n = None
row_numbered (row ∷ rows) n = if n == row.0 then Some row.1 else row_numbered rows n

-- the kind of a single value by its number: itself, or what a symbol makes it
pub data ScalarSort : Type 0 where
  itself : WrittenScalar → ScalarSort
  of_symbol : SymbolTag → (SymbolNumber → WrittenScalar) → ScalarSort

abbrev pub scalar_sorts : List (ℕ × ScalarSort)
scalar_sorts = (0, itself scalars.Void)
    ∷ (1, itself scalars.Boolean)
    ∷ (2, itself scalars.Integer)
    ∷ (3, itself scalars.String)
    ∷ (4, of_symbol tags.Enumeration scalars.Enumeration)
    ∷ (5, of_symbol tags.Class scalars.Class)
    ∷ (6, itself scalars.AnyObject)
    ∷ []

abbrev pub collection_sorts : List (ℕ × CollectionKind)
collection_sorts = (1, collection.Set) ∷ (2, collection.OrderedSet) ∷ (3, collection.Bag) ∷ (4, collection.Sequence) ∷ []

-- a kind whose byte stands here, and what follows the byte; where no kind has the number, the byte is wrong
abbrev pub sort_from : List Symbol → Option ScalarSort → List ℕ → List ℕ → FieldRead WrittenScalar
sort_from symbols None here rest = wrong flaws.BadNumber here
sort_from symbols (Some (itself k)) here rest = Ok (k, rest)
sort_from symbols (Some (of_symbol tag make)) here rest = do
  s ← symbol_number_from tag symbols rest
  Ok (make (record { 0 = s.0 }), s.1)

abbrev pub element_from : List Symbol → ℕ → List ℕ → List ℕ → FieldRead WrittenScalar
element_from symbols n here rest = sort_from symbols (row_numbered scalar_sorts n) here rest

-- the kind of a single value
unfoldable pub single_kind_from : List Symbol → List ℕ → FieldRead WrittenScalar
single_kind_from symbols [] = wrong flaws.Truncated []
single_kind_from symbols (b ∷ rest) = element_from symbols b (b ∷ rest) rest

abbrev pub elements_from : List Symbol → Option CollectionKind → ℕ → List ℕ → List ℕ → FieldRead (CollectionKind × WrittenScalar)
elements_from symbols None n here rest = wrong flaws.BadNumber here
elements_from symbols (Some c) n here rest = do
  k ← element_from symbols n here rest
  Ok ((c, k.0), k.1)

-- the kind of a collection
unfoldable pub collection_kind_from : List Symbol → List ℕ → FieldRead (CollectionKind × WrittenScalar)
collection_kind_from symbols [] = wrong flaws.Truncated []
collection_kind_from symbols (b ∷ rest) = elements_from symbols (row_numbered collection_sorts (b / 16)) (b % 16) (b ∷ rest) rest

-- either
unfoldable pub kind_from : List Symbol → List ℕ → FieldRead WrittenKind
kind_from symbols [] = wrong flaws.Truncated []
kind_from symbols (b ∷ rest) = if nat_lt b 16 then (do
  k ← single_kind_from symbols (b ∷ rest)
  Ok (kinds.Scalar k.0, k.1)) else (do
    k ← collection_kind_from symbols (b ∷ rest)
    Ok (kinds.Collection k.0.0 k.0.1, k.1))
