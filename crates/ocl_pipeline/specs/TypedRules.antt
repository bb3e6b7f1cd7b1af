-- The typed rules of a text, and what they come to.
use Rattle.std.specs.Prelude.{◌≡◌, List, Ok}
use Rattle.ocl_base.specs.Steps.{Fails}
use Rattle.imkl_model.specs.ClassModel.{Model}
use Rattle.ocl_text.specs.Tree.{Rule}
use Rattle.ocl_core.specs.Core.{CheckedRule}
use Rattle.ocl_types.specs.AllRules.{elaborate_rules}
use Rattle.ocl_pipeline.specs.declared.stopped.Stopped.{Stopped}
use Rattle.ocl_pipeline.specs.Stops.{stopped}
use Rattle.ocl_pipeline.specs.TextReading.{TextReading}
use Rattle.ocl_pipeline.specs.Steps.{text_in}

-- a text is read as rules, which have these types
abbrev pub AreRulesOf : Model → TextReading → List CheckedRule → Type 0
AreRulesOf m t rs = (rules : List Rule) × (t ≡ Ok rules) × (elaborate_rules m 0 rules ≡ Ok rs)

-- each text of these typed rules is refused for this
abbrev pub AreRefusedFor : Model → List CheckedRule → Stopped → Type 0
AreRefusedFor m rs why = (t : TextReading) → AreRulesOf m t rs → Fails stopped why (text_in m t)
