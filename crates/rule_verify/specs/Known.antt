-- Numbers that are those of a class model.
use Rattle.std.specs.Prelude.{◌≡◌, ◌<◌, true, List, [], ◌∷◌, length}
use Rattle.imkl_model.specs.ClassModel.{Model, belongs, enumeration_at}
use Rattle.ocl_kinds.specs.declared.kind.Kind.{Kind}
use Rattle.ocl_kinds.specs.Kinds.{IsKindOf}
use Rattle.rule_verify.specs.declared.named.Named.{Named}
use Rattle.rule_verify.specs.declared.named.Named.TheVariants as named

-- what is named is there, and a feature belongs to its class
abbrev pub IsKnownName : Model → Named → Type 0
IsKnownName m (named.Class c) = c < length m.classes
IsKnownName m (named.Enumeration e) = e < length m.enumerations
IsKnownName m (named.Feature c f) = (c < length m.classes) × (f < length m.features) × (belongs m c f ≡ true)
IsKnownName m (named.Literal e l) = (e < length m.enumerations) × (l < length (enumeration_at m e).literals)

-- kinds of the class model
abbrev pub AreKnownKinds : Model → List Kind → Type 0
AreKnownKinds m [] = Unit {0}
AreKnownKinds m (k ∷ ks) = IsKindOf m k × AreKnownKinds m ks
