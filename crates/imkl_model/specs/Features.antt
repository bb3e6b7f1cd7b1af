-- What a feature is by its role, its kind and its upper bound.
use Rattle.std.specs.Prelude.{ℕ, ◌==◌, ◌&&◌, ◌||◌, Bool, true, false, not, Option, Some, None}
use Rattle.ocl_base.specs.CollectionKinds.{is_unique_kind}
use Rattle.imkl_model.specs.declared.feature.FeatureInfo.{FeatureInfo}
use Rattle.imkl_model.specs.declared.feature.Role.{Role}
use Rattle.imkl_model.specs.declared.feature.Role.TheVariants.{Attribute, SourceEnd, OppositeEnd}

abbrev pub is_attribute : Role → Bool
is_attribute Attribute = true
is_attribute (SourceEnd g) = false
is_attribute (OppositeEnd g) = false

abbrev pub is_opposite : Role → Bool
is_opposite Attribute = false
is_opposite (SourceEnd g) = false
is_opposite (OppositeEnd g) = true

abbrev pub is_end : Role → Bool
is_end r = not (is_attribute r)

-- an upper bound of one
abbrev pub is_single : Option ℕ → Bool
is_single None = false
is_single (Some n) = n == 1

-- a unique feature holds nothing twice: each end is unique, and an attribute as its kind says, but for one with upper
-- bound 1
abbrev pub is_unique : FeatureInfo → Bool
is_unique f = is_end f.role || (not (is_single f.upper) && is_unique_kind f.kind)
