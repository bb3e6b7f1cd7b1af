-- What the tables of a class model keep beside its content, for look-ups.
use Rattle.std.specs.Prelude.{◌≡◌, ℕ, ◌<◌, [], Bool, List, Option, is_some, length, map, unwrap_or}
use Rattle.std.specs.Map.{lookup}
use Rattle.std.specs.Ordering.{nat_cmp}
use Rattle.std.specs.BTreeMap.{is_at}
use Rattle.ocl_base.specs.Numbers.{places, least}
use Rattle.imkl_model.specs.declared.entry.Class.{Class}
use Rattle.imkl_model.specs.declared.entry.FeatureRename.{FeatureRename}
use Rattle.imkl_model.specs.declared.feature.FeatureInfo.{FeatureInfo}
use Rattle.imkl_model.specs.ClassModel.{Renames, supers_in, names_of_classes, is_named_in, is_own_in, no_feature}
use Rattle.imkl_model.specs.Renames.{old_names_of}
use Rattle.imkl_model.specs.Chains.{reaches, is_or_reaches}
use Rattle.imkl_model.specs.Tables.{IsSquare, mark_at, has_mark}

-- classes, their names in order, and a row of the classes that each class reaches
pub record ClassesHold (cs : List Class) (ns : List (List ℕ)) (rows : List (List Bool)) : Type 0 where
  pub names : ns ≡ names_of_classes cs
  pub square : IsSquare (length cs) rows
  pub reached : (i j : ℕ) → i < length cs → mark_at rows i j ≡ reaches (supers_in cs) i j

-- the features of one name: their numbers in order, and owners with the first that each has
pub record Group : Type 0 where
  pub numbers : List ℕ
  pub own : List (ℕ × ℕ)

abbrev pub no_group : Group
no_group = record { numbers = []; own = [] }

-- the first feature that a class itself has
abbrev pub own_in : Group → ℕ → Option ℕ
own_in g c = lookup (is_at (nat_cmp c)) g.own

-- a row marks the owners, among the numbers that it has marks for
abbrev pub MarksOwners : List Bool → Group → Type 0
MarksOwners row g = (c : ℕ) → c < length row → has_mark row c ≡ is_some (own_in g c)

-- the group of those of the first n features that have this name
pub record IsGroup (fs : List FeatureInfo) (n : ℕ) (name : List ℕ) (g : Group) : Type 0 where
  pub numbers : g.numbers ≡ places (is_named_in fs name) n
  pub own : (c : ℕ) → own_in g c ≡ least (is_own_in fs name c) n

-- the groups of all names
abbrev pub AreGroups : List FeatureInfo → ℕ → (List ℕ → Option Group) → Type 0
AreGroups fs n by_name = (name : List ℕ) → IsGroup fs n name (unwrap_or (by_name name) no_group)

-- for each class, a row that marks the classes that conform to it
pub record AreDescendants (cs : List Class) (rows : List (List Bool)) : Type 0 where
  pub square : IsSquare (length cs) rows
  pub marks : (d c : ℕ) → d < length cs → c < length cs → mark_at rows d c ≡ is_or_reaches (supers_in cs) c d

-- a feature entry as a feature of its class, for look-ups: of the old name, and nothing else is asked of it
abbrev pub alias_of : FeatureRename → FeatureInfo
alias_of r = record no_feature { name = r.old; owner = r.class }

-- the old names of classes in order, and the feature entries as features
pub record RenamesHold (r : Renames) (ns : List (List ℕ)) (fs : List FeatureInfo) : Type 0 where
  pub names : ns ≡ old_names_of r.classes
  pub aliases : fs ≡ map alias_of r.features
