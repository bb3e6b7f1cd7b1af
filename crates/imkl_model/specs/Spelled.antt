-- What is known of a class model as it is written: names are names, and bounds are within the limit.
use Rattle.std.specs.Prelude.{◌≡◌, ℕ, ◌≤◌, List, true, All, Option, IfSome}
use Rattle.imkl_model.specs.declared.limits.TheConstants.{MAX_BOUND}
use Rattle.imkl_model.specs.Words.{is_title}
use Rattle.imkl_model.specs.WellFormed.{IsModelName}
use Rattle.imkl_model.specs.declared.written.WrittenAttribute.{WrittenAttribute}
use Rattle.imkl_model.specs.declared.written.WrittenClass.{WrittenClass}
use Rattle.imkl_model.specs.declared.written.WrittenEnumeration.{WrittenEnumeration}
use Rattle.imkl_model.specs.declared.written.WrittenEnd.{WrittenEnd}
use Rattle.imkl_model.specs.declared.written.WrittenAssociation.{WrittenAssociation}
use Rattle.imkl_model.specs.declared.written.WrittenClassRename.{WrittenClassRename}
use Rattle.imkl_model.specs.declared.written.WrittenFeatureRename.{WrittenFeatureRename}
use Rattle.imkl_model.specs.declared.written.WrittenRename.{WrittenRename}
use Rattle.imkl_model.specs.declared.written.WrittenRename.TheVariants as renames
use Rattle.imkl_model.specs.declared.written.Written.{Written}

abbrev pub IsSmallUpper : Option ℕ → Type 0
IsSmallUpper upper = IfSome upper (λ u. u ≤ MAX_BOUND)

-- a feature's name and bounds
abbrev pub IsSpelledFeature : List ℕ → ℕ → Option ℕ → Type 0
IsSpelledFeature name lower upper = IsModelName name × (lower ≤ MAX_BOUND) × IsSmallUpper upper

abbrev pub IsSpelledAttribute : WrittenAttribute → Type 0
IsSpelledAttribute a = IsSpelledFeature a.name a.lower a.upper

abbrev pub IsSpelledClass : WrittenClass → Type 0
IsSpelledClass c = IsModelName c.name × All IsSpelledAttribute c.attributes

abbrev pub IsSpelledEnumeration : WrittenEnumeration → Type 0
IsSpelledEnumeration e = IsModelName e.name × All IsModelName e.literals

abbrev pub IsSpelledEnd : WrittenEnd → Type 0
IsSpelledEnd e = IsSpelledFeature e.name e.lower e.upper

abbrev pub IsSpelledAssociation : WrittenAssociation → Type 0
IsSpelledAssociation a = IsModelName a.name × IsSpelledEnd a.end × IsSpelledEnd a.opposite

abbrev pub IsSpelledClassRename : WrittenClassRename → Type 0
IsSpelledClassRename r = IsModelName r.old

abbrev pub IsSpelledFeatureRename : WrittenFeatureRename → Type 0
IsSpelledFeatureRename r = IsModelName r.old

abbrev pub IsSpelledRename : WrittenRename → Type 0
IsSpelledRename (renames.Class r) = IsSpelledClassRename r
IsSpelledRename (renames.Feature r) = IsSpelledFeatureRename r

abbrev pub IsSpelled : Written → Type 0
IsSpelled w =
    (is_title w.name ≡ true) × All IsSpelledEnumeration w.enumerations × All IsSpelledClass w.classes
    × All IsSpelledAssociation w.associations × All IsSpelledClassRename w.class_renames
    × All IsSpelledFeatureRename w.feature_renames
