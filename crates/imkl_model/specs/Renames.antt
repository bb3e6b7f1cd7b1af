-- Old names: what they name now, and where they clash.
use Rattle.std.specs.Prelude.{ℕ, ◌&&◌, ◌||◌, Bool, List, [], length, map, Option, position, slice_index_or, option_and_then, is_some, bytes_eq}
use Rattle.std.specs.Option.{option_map_or}
use Rattle.ocl_base.specs.Numbers.{least}
use Rattle.imkl_model.specs.declared.entry.ClassRename.{ClassRename}
use Rattle.imkl_model.specs.declared.entry.FeatureRename.{FeatureRename}
use Rattle.imkl_model.specs.Chains.{any_below}
use Rattle.imkl_model.specs.ClassModel.{Model, class_at, feature_at, conforms, class_number, feature_number}

-- ---- entries by their indices

abbrev pub no_class_rename : ClassRename
no_class_rename = record { old = []; class = 0 }

abbrev pub no_feature_rename : FeatureRename
no_feature_rename = record { class = 0; old = []; feature = 0 }

abbrev pub class_rename_at : Model → ℕ → ClassRename
class_rename_at m i = slice_index_or m.renames.classes i no_class_rename

abbrev pub feature_rename_at : Model → ℕ → FeatureRename
feature_rename_at m i = slice_index_or m.renames.features i no_feature_rename

abbrev pub old_names_of : List ClassRename → List (List ℕ)
old_names_of renames = map (λ r. r.old) renames

abbrev pub old_class_names : Model → List (List ℕ)
old_class_names m = old_names_of m.renames.classes

-- ---- what an old name names now

-- the class entry with this old name
abbrev pub class_rename_number : Model → List ℕ → Option ℕ
class_rename_number m name = position (bytes_eq name) (old_class_names m)

-- the class name itself, or the present one where an entry has it as an old name
abbrev pub renamed_class : Model → List ℕ → List ℕ
renamed_class m name = option_map_or (λ i. (class_at m (class_rename_at m i).class).name) (class_rename_number m name) name

-- a feature entry is for its class and for each class that conforms to it
abbrev pub is_for : Model → ℕ → ℕ → Bool
is_for m c i = conforms m c (feature_rename_at m i).class

-- the feature entry with this old name that is for the class
abbrev pub feature_rename_number : Model → ℕ → List ℕ → Option ℕ
feature_rename_number m c name = least (λ i. bytes_eq name (feature_rename_at m i).old && is_for m c i) (length m.renames.features)

-- the name of a feature of a class itself, or the present one where an entry for the class has it as an old name
abbrev pub renamed_in : Model → ℕ → List ℕ → List ℕ
renamed_in m c name = option_map_or (λ i. (feature_at m (feature_rename_at m i).feature).name) (feature_rename_number m c name) name

-- the same of the class with this present name
abbrev pub renamed_feature : Model → List ℕ → List ℕ → List ℕ
renamed_feature m class name = option_map_or (λ c. renamed_in m c name) (class_number m class) name

-- the feature with this present name, of the class with this present name
abbrev pub feature_by_names : Model → List ℕ → List ℕ → Option ℕ
feature_by_names m class name = option_and_then (λ c. feature_number m c name) (class_number m class)

-- the class that a name names, old or present
abbrev pub linked_class : Model → List ℕ → Option ℕ
linked_class m name = class_number m (renamed_class m name)

-- the feature that two names name, each old or present
abbrev pub linked_feature : Model → List ℕ → List ℕ → Option ℕ
linked_feature m class name = feature_by_names m (renamed_class m class) (renamed_feature m (renamed_class m class) name)

-- ---- clashes

-- an entry for the class has an old name that is the name of a feature of the class, or the old name of an earlier entry
-- for it
abbrev pub is_taken : Model → ℕ → ℕ → Bool
is_taken m c i =
    is_for m c i
    && (is_some (feature_number m c (feature_rename_at m i).old)
    || any_below (λ j. is_for m c j && bytes_eq (feature_rename_at m i).old (feature_rename_at m j).old) i)

abbrev pub renames_clash : Model → Bool
renames_clash m = any_below (λ c. any_below (is_taken m c) (length m.renames.features)) (length m.classes)
