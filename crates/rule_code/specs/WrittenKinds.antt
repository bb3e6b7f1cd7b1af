-- Kinds as a code file has them: one byte, then for an enumeration or a class its symbol.
use Rattle.std.specs.Prelude.{ℕ, ◌+◌, ◌*◌, List, [], ◌∷◌}
use Rattle.ocl_base.specs.declared.collection_kind.CollectionKind.{CollectionKind}
use Rattle.ocl_base.specs.declared.collection_kind.CollectionKind.TheVariants as collection
use Rattle.rule_code.specs.declared.kind.WrittenScalar.{WrittenScalar}
use Rattle.rule_code.specs.declared.kind.WrittenScalar.TheVariants as scalars
use Rattle.rule_code.specs.declared.kind.WrittenKind.{WrittenKind}
use Rattle.rule_code.specs.declared.kind.WrittenKind.TheVariants as kinds
use Rattle.rule_code.specs.NumberBytes.{number_bytes}

-- the low half of a kind's byte: the kind of a single value, or of the elements
abbrev pub scalar_number : WrittenScalar → ℕ
scalar_number scalars.Void = 0
scalar_number scalars.Boolean = 1
scalar_number scalars.Integer = 2
scalar_number scalars.String = 3
scalar_number (scalars.Enumeration s) = 4
scalar_number (scalars.Class s) = 5
scalar_number scalars.AnyObject = 6

-- the high half, where the kind is that of a collection; else it is zero
abbrev pub collection_number : CollectionKind → ℕ
collection_number collection.Set = 1
collection_number collection.OrderedSet = 2
collection_number collection.Bag = 3
collection_number collection.Sequence = 4

-- the symbol behind the byte
abbrev pub scalar_symbol : WrittenScalar → List ℕ
scalar_symbol (scalars.Enumeration s) = number_bytes s.0
scalar_symbol (scalars.Class s) = number_bytes s.0
scalar_symbol k = []

abbrev pub scalar_bytes : WrittenScalar → List ℕ
scalar_bytes k = scalar_number k ∷ scalar_symbol k

abbrev pub collection_bytes : CollectionKind → WrittenScalar → List ℕ
collection_bytes c k = (collection_number c * 16 + scalar_number k) ∷ scalar_symbol k

abbrev pub kind_bytes : WrittenKind → List ℕ
kind_bytes (kinds.Scalar k) = scalar_bytes k
kind_bytes (kinds.Collection c k) = collection_bytes c k
