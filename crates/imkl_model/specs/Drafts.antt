-- A class model before its last checks.
use Rattle.std.specs.Prelude.{◌≡◌, true, false, Ok}
use Rattle.imkl_model.specs.declared.written.Written.{Written}
use Rattle.imkl_model.specs.declared.draft.Draft.{Draft}
use Rattle.imkl_model.specs.ClassModel.{Model}
use Rattle.imkl_model.specs.Checks.{is_within_limits, repeats_name}
use Rattle.imkl_model.specs.Spelled.{IsSpelled}
use Rattle.imkl_model.specs.Numbering.{numbered_model}

abbrev pub model_of_draft : Draft → Model
model_of_draft d = record {
  name = d.name;
  enumerations = d.enumerations;
  classes = d.classes;
  features = d.features;
  associations = d.associations;
  renames = d.renames;
}

-- the class model was numbered from one that is written, within its limits and with names that differ
pub record IsNumbered (m : Model) : Type 0 where
  pub written : Written
  pub limits : is_within_limits written ≡ true
  pub distinct : repeats_name written ≡ false
  pub spelled : IsSpelled written
  pub numbered : numbered_model written ≡ Ok m
