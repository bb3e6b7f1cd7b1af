-- Old names as they are written: those of classes, and those of features.
use Rattle.std.proofs.Common.{◌≡◌, ◌∙◌, ◌≤◌, ℕ, List, [], ◌∷◌, ◌++◌, length, drop, All, sym, ap, subst}
use Rattle.std.specs.List.{AllByRecursion}
use Rattle.std.proofs.lemmas.List.{append-nil}
use Rattle.std.proofs.Math.ListN.{drop_of_length-le}
use Rattle.imkl_model.specs.declared.written.WrittenRename.{WrittenRename}
use Rattle.imkl_model.specs.declared.written.WrittenRename.TheVariants as renames
use Rattle.imkl_model.specs.declared.written.WrittenClassRename.{WrittenClassRename}
use Rattle.imkl_model.specs.declared.written.WrittenFeatureRename.{WrittenFeatureRename}
use Rattle.imkl_model.specs.Shape.{class_renames_of, feature_renames_of}
use Rattle.imkl_model.specs.Spelled.{IsSpelledRename, IsSpelledClassRename, IsSpelledFeatureRename}
use Rattle.ocl_base.proofs.ForAbove.{all_at, from_all}

class_spelled : (rs : List WrittenRename) → AllByRecursion IsSpelledRename rs → AllByRecursion IsSpelledClassRename (class_renames_of rs)
class_spelled [] h = tt
class_spelled (renames.Class r ∷ rs) h = (h.0, class_spelled rs h.1)
class_spelled (renames.Feature r ∷ rs) h = class_spelled rs h.1

feature_spelled : (rs : List WrittenRename) → AllByRecursion IsSpelledRename rs → AllByRecursion IsSpelledFeatureRename (feature_renames_of rs)
feature_spelled [] h = tt
feature_spelled (renames.Class r ∷ rs) h = feature_spelled rs h.1
feature_spelled (renames.Feature r ∷ rs) h = (h.0, feature_spelled rs h.1)

-- where all were gone over, those that were found are names
pub classes_spelled : (found : List WrittenClassRename) (rs : List WrittenRename) (i : ℕ) → found ++ class_renames_of (drop i rs) ≡ class_renames_of rs → length rs ≤ i → All IsSpelledRename rs → All IsSpelledClassRename found
classes_spelled found rs i so_far le h =
    let is : found ≡ class_renames_of rs = sym (append-nil found) ∙ ap (λ (l : List WrittenRename). found ++ class_renames_of l) (sym (drop_of_length-le rs le)) ∙ so_far in
    subst (λ (l : List WrittenClassRename). All IsSpelledClassRename l) (sym is) (all_at IsSpelledClassRename (class_renames_of rs) (class_spelled rs (from_all IsSpelledRename rs h)))

pub features_spelled : (found : List WrittenFeatureRename) (rs : List WrittenRename) (i : ℕ) → found ++ feature_renames_of (drop i rs) ≡ feature_renames_of rs → length rs ≤ i → All IsSpelledRename rs → All IsSpelledFeatureRename found
features_spelled found rs i so_far le h =
    let is : found ≡ feature_renames_of rs = sym (append-nil found) ∙ ap (λ (l : List WrittenRename). found ++ feature_renames_of l) (sym (drop_of_length-le rs le)) ∙ so_far in
    subst (λ (l : List WrittenFeatureRename). All IsSpelledFeatureRename l) (sym is) (all_at IsSpelledFeatureRename (feature_renames_of rs) (feature_spelled rs (from_all IsSpelledRename rs h)))
