-- Kinds of collections.
use Rattle.std.specs.Prelude.{Bool, true, false}
use Rattle.ocl_base.specs.declared.collection_kind.CollectionKind.{CollectionKind}
use Rattle.ocl_base.specs.declared.collection_kind.CollectionKind.TheVariants.{Set, OrderedSet, Bag, Sequence}

-- a value may stand only once
abbrev pub is_unique_kind : CollectionKind → Bool
is_unique_kind Set = true
is_unique_kind OrderedSet = true
is_unique_kind Bag = false
is_unique_kind Sequence = false
