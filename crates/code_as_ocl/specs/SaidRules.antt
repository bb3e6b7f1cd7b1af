-- What stands for a rule of a unit: a text that is compiled to the rule again, or one with a mark.
use Rattle.std.specs.Prelude.{◌≡◌, ◌⊎◌, ℕ, zero, suc, true, List, [], ◌++◌, length}
use Rattle.imkl_model.specs.ClassModel.{Model}
use Rattle.rule_code.specs.Content.{Content, text_at}
use Rattle.rule_verify.specs.UnitRules.{unit_rule, context_class}
use Rattle.rule_trees.specs.CoreOf.{core_of_rule}
use Rattle.ocl_pipeline.specs.TextReading.{TextReading, ReadsAs}
use Rattle.ocl_pipeline.specs.CompiledRules.{IsUnitOf}
use Rattle.code_as_ocl.specs.ShownRules.{is_too_long, rule_shown, rule_marked}

module _ (m : Model) (u : Content) where
  -- a unit of one rule, which has the name, the context class and the core tree of a rule of this unit
  pub record IsSameRule (n : ℕ) (v : Content) : Type 0 where
    pub alone : length v.rules ≡ 1
    pub name : text_at v.texts (unit_rule v 0).name ≡ text_at u.texts (unit_rule u n).name
    pub context : context_class m v (unit_rule v 0) ≡ context_class m u (unit_rule u n)
    pub tree : core_of_rule m v 0 ≡ core_of_rule m u n

  -- a text is compiled to such a unit
  abbrev pub IsSaid : ℕ → List ℕ → Type 0
  IsSaid n text = (t : TextReading) × ReadsAs text t × (v : Content) × IsUnitOf m t v × IsSameRule n v

  -- one that isn't has a mark, whatever the reason that it gives; one that is too long isn't shown
  abbrev pub IsMarked : ℕ → List ℕ → Type 0
  IsMarked n text = (why : List ℕ) × (text ≡ rule_marked m u why n)

  abbrev pub IsLeftOut : ℕ → List ℕ → Type 0
  IsLeftOut n text = (is_too_long (unit_rule u n) ≡ true) × (text ≡ rule_shown m u n)

  abbrev pub IsRuleText : ℕ → List ℕ → Type 0
  IsRuleText n text = IsSaid n text ⊎ (IsMarked n text ⊎ IsLeftOut n text)

  -- the texts of the rules before one of this index, in order
  abbrev pub AreRuleTexts : ℕ → List ℕ → Type 0
  AreRuleTexts zero text = text ≡ []
  AreRuleTexts (suc n) text =
      (before : List ℕ) × (rule : List ℕ) × AreRuleTexts n before × IsRuleText n rule × (text ≡ before ++ rule)
