-- A unit and the class model in which its symbols are looked up.
use Rattle.imkl_model.specs.ClassModel.{Model}
use Rattle.rule_code.specs.Content.{Content}

pub record ResolvedUnit : Type 0 where
  pub model : Model
  pub unit : Content

abbrev pub resolved_unit : Model → Content → ResolvedUnit
resolved_unit m u = record { model = m; unit = u }
