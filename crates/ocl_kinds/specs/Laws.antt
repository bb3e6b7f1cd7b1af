-- Laws of kinds.
use Rattle.std.specs.Prelude.{◌≡◌, ◌⊎◌, ℕ, true, Some, IsSome}
use Rattle.imkl_model.specs.ClassModel.{Model, feature_at}
use Rattle.imkl_model.specs.WellFormed.{IsFeature}
use Rattle.ocl_kinds.specs.declared.kind.ScalarKind.{ScalarKind}
use Rattle.ocl_kinds.specs.declared.kind.Kind.{Kind}
use Rattle.ocl_kinds.specs.Kinds.{IsKindOf, scalar_fits, fits, feature_kind, wider_kind, common_kind}

abbrev pub FitsItself : Model → Type 0
FitsItself m = (k : Kind) → fits m k k ≡ true

abbrev pub FitsAlong : Model → Type 0
FitsAlong m = (j k l : Kind) → fits m j k ≡ true → fits m k l ≡ true → fits m j l ≡ true

-- no two kinds fit each other
abbrev pub FitsOneWay : Model → Type 0
FitsOneWay m = (j k : Kind) → fits m j k ≡ true → fits m k j ≡ true → j ≡ k

abbrev pub FeaturesHaveKinds : Model → Type 0
FeaturesHaveKinds m = (f : ℕ) → IsFeature m f → IsKindOf m (feature_kind (feature_at m f))

-- the wider of two kinds is one of them, and both fit it
abbrev pub WiderIsOne : Model → Type 0
WiderIsOne m = (j k l : Kind) → wider_kind m j k ≡ Some l → (l ≡ j) ⊎ (l ≡ k)

abbrev pub BothFitWider : Model → Type 0
BothFitWider m = (j k l : Kind) → wider_kind m j k ≡ Some l → (fits m j l ≡ true) × (fits m k l ≡ true)

-- of two kinds of which one fits the other, that other is the wider
abbrev pub FittedIsWider : Model → Type 0
FittedIsWider m = (j k : Kind) → fits m j k ≡ true → wider_kind m j k ≡ Some k

-- whichever comes first
abbrev pub WiderCommutes : Model → Type 0
WiderCommutes m = (j k : Kind) → wider_kind m j k ≡ wider_kind m k j

-- both kinds fit the one that they have in common
abbrev pub BothFitCommon : Model → Type 0
BothFitCommon m =
    (j k l : ScalarKind) → common_kind j k ≡ Some l → (scalar_fits m j l ≡ true) × (scalar_fits m k l ≡ true)

-- two kinds that fit one kind have a kind in common
abbrev pub FittingOneHaveCommon : Model → Type 0
FittingOneHaveCommon m =
    (j k l : ScalarKind) → scalar_fits m j l ≡ true → scalar_fits m k l ≡ true → IsSome (common_kind j k)

abbrev pub CommonCommutes : Type 0
CommonCommutes = (j k : ScalarKind) → common_kind j k ≡ common_kind k j
