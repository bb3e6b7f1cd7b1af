-- What the value of a member is, in the terms of what readers take.
use Rattle.std.specs.Prelude.{Bool, false, List, Option, Some, None, is_some, is_ok}
use Rattle.std.specs.List.{list_all}
use Rattle.serde_json.specs.Data.{Data}
use Rattle.serde_json.specs.Find.{as_str, as_bool, as_object}
use Rattle.imkl_json.specs.Json.{list_from}
use Rattle.imkl_model.specs.declared.members.Is.{Is}
use Rattle.imkl_model.specs.declared.members.Is.TheVariants as is
use Rattle.imkl_model.specs.Shape.{title_from, name_from, lower_from, upper_from}

-- whether the elements of a list are names
abbrev pub are_names : Option (List Data) → Bool
are_names None = false
are_names (Some ds) = list_all (λ d. is_ok (name_from d)) ds

-- whether a value is so
abbrev pub holds : Is → Data → Bool
holds is.Text d = is_some (as_str d)
holds is.Title d = is_ok (title_from d)
holds is.Name d = is_ok (name_from d)
holds is.Truth d = is_some (as_bool d)
holds is.Lower d = is_ok (lower_from d)
holds is.Upper d = is_ok (upper_from d)
holds is.List d = is_some (list_from d)
holds is.Names d = are_names (list_from d)
holds is.Object d = is_some (as_object d)
