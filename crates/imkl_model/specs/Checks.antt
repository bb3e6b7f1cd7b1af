-- The conditions on a class model as it is written.
use Rattle.std.specs.Prelude.{ℕ, ◌+◌, ◌&&◌, ◌||◌, List, ◌++◌, length, map, Bool, true, nat_le, nat_lt, Option, Some, None, bytes_eq}
use Rattle.std.specs.List.{list_all, list_any}
use Rattle.imkl_model.specs.declared.written.Written.{Written}
use Rattle.ocl_base.specs.Lists.{repeats}
use Rattle.imkl_model.specs.declared.limits.TheConstants.{MAX_FEATURES, MAX_RENAMES, MAX_TYPES}
use Rattle.imkl_model.specs.Words.{is_predefined, qualified}
use Rattle.imkl_model.specs.WrittenFeatures.{written_features}
use Rattle.imkl_model.specs.declared.written.WrittenFeature.{WrittenFeature}
use Rattle.imkl_model.specs.declared.feature.FeatureInfo.{FeatureInfo}

abbrev pub written_enumeration_names : Written → List (List ℕ)
written_enumeration_names w = map (λ e. e.name) w.enumerations

abbrev pub written_class_names : Written → List (List ℕ)
written_class_names w = map (λ c. c.name) w.classes

abbrev pub written_association_names : Written → List (List ℕ)
written_association_names w = map (λ a. a.name) w.associations

abbrev pub written_old_names : Written → List (List ℕ)
written_old_names w = map (λ r. r.old) w.class_renames

abbrev pub feature_names : List WrittenFeature → List (List ℕ)
feature_names ds = map (λ d. qualified d.owner d.name) ds

-- counts of classes, enumerations, literals of each enumeration, features, and old names
unfoldable pub is_within_limits : Written → Bool
is_within_limits w =
    nat_le (length w.classes) MAX_TYPES && nat_le (length w.enumerations) MAX_TYPES
    && list_all (λ e. nat_le (length e.literals) MAX_TYPES) w.enumerations
    && nat_le (length (written_features w)) MAX_FEATURES
    && nat_le (length w.class_renames + length w.feature_renames) MAX_RENAMES

-- two classes or enumerations of one name, or one with the name of a predefined type; a class's old name counts as the
-- name of one more class
unfoldable pub repeats_type : Written → Bool
repeats_type w = list_any is_predefined (written_enumeration_names w) || list_any is_predefined (written_class_names w)
    || list_any is_predefined (written_old_names w)
    || repeats bytes_eq ((written_enumeration_names w ++ written_class_names w) ++ written_old_names w)

-- two literals of one enumeration with one name
abbrev pub repeats_literal : Written → Bool
repeats_literal w = list_any (λ e. repeats bytes_eq e.literals) w.enumerations

-- two direct superclasses of one class with one name
abbrev pub repeats_super : Written → Bool
repeats_super w = list_any (λ c. repeats bytes_eq c.supers) w.classes

-- two associations of one name
abbrev pub repeats_association : Written → Bool
repeats_association w = repeats bytes_eq (written_association_names w)

-- two features of one owner with one name; owners are compared by their written names
abbrev pub repeats_feature : Written → Bool
repeats_feature w = repeats bytes_eq (feature_names (written_features w))

unfoldable pub repeats_name : Written → Bool
repeats_name w = repeats_type w || repeats_literal w || repeats_super w || repeats_association w || repeats_feature w

-- a lower bound is not above the upper bound, and an upper bound is not 0
abbrev pub is_multiplicity : ℕ → Option ℕ → Bool
is_multiplicity lower None = true
is_multiplicity lower (Some upper) = nat_le lower upper && nat_lt 0 upper

abbrev pub has_multiplicity : FeatureInfo → Bool
has_multiplicity f = is_multiplicity f.lower f.upper
