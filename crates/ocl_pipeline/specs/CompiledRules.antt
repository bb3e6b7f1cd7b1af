-- The rules of a text, typed and compiled, or the first reason why they aren't.
use Rattle.std.specs.Prelude.{◌≡◌, List, Result, Ok, Err}
use Rattle.ocl_base.specs.Steps.{◌>>=◌}
use Rattle.imkl_model.specs.ClassModel.{Model}
use Rattle.ocl_text.specs.Tree.{Rule}
use Rattle.ocl_core.specs.Core.{CheckedRule}
use Rattle.ocl_types.specs.AllRules.{RulesFaultAt, elaborate_rules}
use Rattle.rule_code.specs.Content.{Content}
use Rattle.ocl_compile.specs.Compiling.{LimitAt, compile_of}
use Rattle.ocl_pipeline.specs.TextReading.{TextFaultAt, TextReading}

-- typed rules, and the unit that they are compiled to
pub record CompiledRules : Type 0 where
  pub rules : List CheckedRule
  pub unit : Content

abbrev pub rules_with : List CheckedRule → Content → CompiledRules
rules_with rs u = record { rules = rs; unit = u }

-- the text has a flaw, the types of a rule are at fault, or a rule passes a limit
pub data TextRefusal : Type 0 where
  InText : (fault : TextFaultAt) → TextRefusal
  InTypes : (fault : RulesFaultAt) → TextRefusal
  InCode : (limit : LimitAt) → TextRefusal

abbrev pub in_text : TextReading → Result (List Rule) TextRefusal
in_text (Ok rules) = Ok rules
in_text (Err fault) = Err (InText fault)

abbrev pub in_types : Result (List CheckedRule) RulesFaultAt → Result (List CheckedRule) TextRefusal
in_types (Ok rules) = Ok rules
in_types (Err fault) = Err (InTypes fault)

abbrev pub in_code : List CheckedRule → Result Content LimitAt → Result CompiledRules TextRefusal
in_code rules (Ok unit) = Ok (rules_with rules unit)
in_code rules (Err limit) = Err (InCode limit)

-- types of all rules are checked before the first is compiled
abbrev pub compiled_rules : Model → TextReading → Result CompiledRules TextRefusal
compiled_rules m t = do
  rules ← in_text t
  typed ← in_types (elaborate_rules m 0 rules)
  in_code typed (compile_of m typed)

-- the rules of a reading are compiled to this unit
abbrev pub IsUnitOf : Model → TextReading → Content → Type 0
IsUnitOf m t u = (rs : List CheckedRule) × (compiled_rules m t ≡ Ok (rules_with rs u))
