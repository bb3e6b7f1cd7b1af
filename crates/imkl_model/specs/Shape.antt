-- What a JSON tree has to look like, and the class model that it writes. One function for each row of the format's table:
-- an object has exactly the members that its function reads.
use Rattle.std.specs.Prelude.{ℕ, ◌+◌, List, [], ◌∷◌, ◌++◌, Bool, Option, Some, None, is_some, Result, Ok, Err, nat_le, if◌then◌else◌, codes}
use Rattle.serde_json.specs.Data.{Data, null}
use Rattle.serde_json.specs.Find.{get, as_str, as_bool}
use Rattle.imkl_model.specs.declared.fault.ModelFault.{ModelFault}
use Rattle.imkl_model.specs.declared.fault.ModelFault.TheVariants.{Shape}
use Rattle.imkl_model.specs.declared.written.WrittenAttribute.{WrittenAttribute}
use Rattle.imkl_model.specs.declared.written.WrittenClass.{WrittenClass}
use Rattle.imkl_model.specs.declared.written.WrittenEnumeration.{WrittenEnumeration}
use Rattle.imkl_model.specs.declared.written.WrittenEnd.{WrittenEnd}
use Rattle.imkl_model.specs.declared.written.WrittenAssociation.{WrittenAssociation}
use Rattle.imkl_model.specs.declared.written.WrittenClassRename.{WrittenClassRename}
use Rattle.imkl_model.specs.declared.written.WrittenFeatureRename.{WrittenFeatureRename}
use Rattle.imkl_model.specs.declared.written.WrittenRename.{WrittenRename}
use Rattle.imkl_model.specs.declared.written.WrittenRename.TheVariants as renames
use Rattle.imkl_model.specs.declared.written.Written.{Written}
use Rattle.ocl_base.specs.Steps.{◌>>=◌, found, each}
use Rattle.imkl_model.specs.declared.limits.TheConstants.{MAX_BOUND}
use Rattle.imkl_model.specs.Words.{is_model_name, is_title}
use Rattle.imkl_json.specs.Json.{record_from, list_from, natural_from, member_count}

-- the class model's own name
unfoldable pub title_from : Data → Result (List ℕ) ModelFault
title_from d = do
  text ← found (as_str d) Shape
  if is_title text then Ok text else Err Shape

-- every other name
unfoldable pub name_from : Data → Result (List ℕ) ModelFault
name_from d = do
  text ← found (as_str d) Shape
  if is_model_name text then Ok text else Err Shape

-- a lower bound: a number from 0 to the limit
unfoldable pub lower_from : Data → Result ℕ ModelFault
lower_from d = do
  n ← found (natural_from d) Shape
  if nat_le n MAX_BOUND then Ok n else Err Shape

-- an upper bound: the same, or null for none
unfoldable pub upper_from : Data → Result (Option ℕ) ModelFault
upper_from null = Ok None
upper_from d = do
  n ← lower_from d
  Ok (Some n)

-- true or false
abbrev pub truth_from : Data → Result Bool ModelFault
truth_from d = found (as_bool d) Shape

-- a list
abbrev pub trees_from : Data → Result (List Data) ModelFault
trees_from d = found (list_from d) Shape

-- a list of names
abbrev pub names_from : Data → Result (List (List ℕ)) ModelFault
names_from d = do
  names ← found (list_from d) Shape
  each name_from names

-- a member, by what it is
abbrev pub member_from : {A : Type 0} → (Data → Result A ModelFault) → List ℕ → Data → Result A ModelFault
member_from from name d = do
  m ← found (get name d) Shape
  from m

unfoldable pub attribute_from : Data → Result WrittenAttribute ModelFault
attribute_from d = do
  _ ← found (record_from 6 d) Shape
  n ← found (get (codes "name") d) Shape
  name ← name_from n
  t ← found (get (codes "type") d) Shape
  element ← name_from t
  l ← found (get (codes "lower") d) Shape
  lower ← lower_from l
  u ← found (get (codes "upper") d) Shape
  upper ← upper_from u
  o ← found (get (codes "ordered") d) Shape
  ordered ← found (as_bool o) Shape
  q ← found (get (codes "unique") d) Shape
  unique ← found (as_bool q) Shape
  Ok (record { name = name; element = element; lower = lower; upper = upper; ordered = ordered; unique = unique })

unfoldable pub class_from : Data → Result WrittenClass ModelFault
class_from d = do
  _ ← found (record_from 4 d) Shape
  n ← found (get (codes "name") d) Shape
  name ← name_from n
  b ← found (get (codes "abstract") d) Shape
  is_abstract ← found (as_bool b) Shape
  s ← found (get (codes "supers") d) Shape
  ss ← found (list_from s) Shape
  supers ← each name_from ss
  a ← found (get (codes "attributes") d) Shape
  as' ← found (list_from a) Shape
  attributes ← each attribute_from as'
  Ok (record { name = name; is_abstract = is_abstract; supers = supers; attributes = attributes })

unfoldable pub enumeration_from : Data → Result WrittenEnumeration ModelFault
enumeration_from d = do
  _ ← found (record_from 2 d) Shape
  n ← found (get (codes "name") d) Shape
  name ← name_from n
  l ← found (get (codes "literals") d) Shape
  ls ← found (list_from l) Shape
  literals ← each name_from ls
  Ok (record { name = name; literals = literals })

unfoldable pub end_from : Data → Result WrittenEnd ModelFault
end_from d = do
  _ ← found (record_from 4 d) Shape
  n ← found (get (codes "name") d) Shape
  name ← name_from n
  l ← found (get (codes "lower") d) Shape
  lower ← lower_from l
  u ← found (get (codes "upper") d) Shape
  upper ← upper_from u
  o ← found (get (codes "ordered") d) Shape
  ordered ← found (as_bool o) Shape
  Ok (record { name = name; lower = lower; upper = upper; ordered = ordered })

unfoldable pub association_from : Data → Result WrittenAssociation ModelFault
association_from d = do
  _ ← found (record_from 5 d) Shape
  n ← found (get (codes "name") d) Shape
  name ← name_from n
  f ← found (get (codes "from") d) Shape
  from ← name_from f
  t ← found (get (codes "to") d) Shape
  to ← name_from t
  e ← found (get (codes "end") d) Shape
  end ← end_from e
  o ← found (get (codes "opposite") d) Shape
  opposite ← end_from o
  Ok (record { name = name; from = from; to = to; end = end; opposite = opposite })

unfoldable pub class_rename_from : Data → Result WrittenRename ModelFault
class_rename_from d = do
  _ ← found (record_from 2 d) Shape
  o ← found (get (codes "old") d) Shape
  old ← name_from o
  n ← found (get (codes "new") d) Shape
  new ← name_from n
  Ok (renames.Class (record { old = old; new = new }))

unfoldable pub feature_rename_from : Data → Result WrittenRename ModelFault
feature_rename_from d = do
  _ ← found (record_from 3 d) Shape
  c ← found (get (codes "class") d) Shape
  class ← name_from c
  o ← found (get (codes "old") d) Shape
  old ← name_from o
  n ← found (get (codes "new") d) Shape
  new ← name_from n
  Ok (renames.Feature (record { class = class; old = old; new = new }))

-- an old name with a class is a feature's, and one without is a class's
unfoldable pub rename_from : Data → Result WrittenRename ModelFault
rename_from d = if is_some (get (codes "class") d) then feature_rename_from d else class_rename_from d

-- the old names: an optional member
abbrev pub renames_in : Option Data → Result (List WrittenRename) ModelFault
renames_in None = Ok []
renames_in (Some r) = do
  rs ← found (list_from r) Shape
  each rename_from rs

abbrev pub class_rename_of : WrittenRename → List WrittenClassRename
class_rename_of (renames.Class r) = r ∷ []
class_rename_of (renames.Feature r) = []

abbrev pub feature_rename_of : WrittenRename → List WrittenFeatureRename
feature_rename_of (renames.Class r) = []
feature_rename_of (renames.Feature r) = r ∷ []

-- those of classes, and those of features
abbrev pub class_renames_of : List WrittenRename → List WrittenClassRename
class_renames_of [] = []
class_renames_of (r ∷ rs) = class_rename_of r ++ class_renames_of rs

abbrev pub feature_renames_of : List WrittenRename → List WrittenFeatureRename
feature_renames_of [] = []
feature_renames_of (r ∷ rs) = feature_rename_of r ++ feature_renames_of rs

unfoldable pub written_from : Data → Result Written ModelFault
written_from d = do
  _ ← found (record_from (4 + member_count (codes "renames") d) d) Shape
  n ← found (get (codes "model") d) Shape
  name ← title_from n
  e ← found (get (codes "enums") d) Shape
  es ← found (list_from e) Shape
  enumerations ← each enumeration_from es
  c ← found (get (codes "classes") d) Shape
  cs ← found (list_from c) Shape
  classes ← each class_from cs
  a ← found (get (codes "associations") d) Shape
  as' ← found (list_from a) Shape
  associations ← each association_from as'
  rs ← renames_in (get (codes "renames") d)
  Ok (record {
    name = name;
    enumerations = enumerations;
    classes = classes;
    associations = associations;
    class_renames = class_renames_of rs;
    feature_renames = feature_renames_of rs;
  })
