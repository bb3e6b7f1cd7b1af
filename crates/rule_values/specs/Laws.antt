-- What holds of values in kinds.
use Rattle.std.specs.Prelude.{◌≡◌, true}
use Rattle.ocl_base.specs.declared.collection_kind.CollectionKind.{CollectionKind}
use Rattle.ocl_base.specs.declared.collection_kind.CollectionKind.TheVariants as collection
use Rattle.imkl_population.specs.Population.{Population}
use Rattle.ocl_kinds.specs.declared.kind.ScalarKind.{ScalarKind}
use Rattle.ocl_kinds.specs.declared.kind.ScalarKind.TheVariants as element
use Rattle.ocl_kinds.specs.declared.kind.Kind.{Kind}
use Rattle.ocl_kinds.specs.declared.kind.Kind.TheVariants as kind
use Rattle.ocl_kinds.specs.Kinds.{fits}
use Rattle.rule_values.specs.Value.{Value, is_in}
use Rattle.rule_values.specs.Operations.{summation, as_set}

-- a value in a kind is in each kind that it fits
abbrev pub FitsIn : Population → Type 0
FitsIn p = (v : Value) (j k : Kind) → fits p.model j k ≡ true → is_in p v j ≡ true → is_in p v k ≡ true

-- a sum is an Integer
abbrev pub SumsAreIntegers : Population → Type 0
SumsAreIntegers p = (v : Value) → is_in p (summation v) (kind.Scalar element.Integer) ≡ true

-- of a collection of a kind, the Set of its elements is a Set of that kind
abbrev pub SetsHaveTheirKind : Population → Type 0
SetsHaveTheirKind p =
    (v : Value) (c : CollectionKind) (k : ScalarKind) → is_in p v (kind.Collection c k) ≡ true → is_in p (as_set v) (kind.Collection collection.Set k) ≡ true
