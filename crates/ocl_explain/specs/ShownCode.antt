-- What `show` may print of the bytes of a class model and a code file, and its status: a text of each rule, which is compiled to the
-- rule again or has a mark; or the line by which `verify` refuses an input.
use Rattle.std.specs.Prelude.{◌≡◌, List, ℕ, length, Result, Ok, Err}
use Rattle.imkl_model.specs.ClassModel.{Model}
use Rattle.rule_code.specs.Content.{Content}
use Rattle.ocl_check.specs.Reply.{Answer, refused}
use Rattle.ocl_pipeline.specs.declared.refusal.Refusal.{Refusal}
use Rattle.ocl_pipeline.specs.Steps.{model_in, unit_in}
use Rattle.code_as_ocl.specs.SaidRules.{AreRuleTexts}

abbrev pub IsShownUnit : Model → Content → Answer → Type 0
IsShownUnit m u a = AreRuleTexts m u (length u.rules) a.0 × (a.1 ≡ 0)

-- what may be shown of what an input gives, else the line of its refusal
abbrev pub IsShownBy : {A : Type 0} → (A → Answer → Type 0) → Result A Refusal → Answer → Type 0
IsShownBy Shown (Ok x) a = Shown x a
IsShownBy Shown (Err r) a = a ≡ refused r

abbrev pub IsShownCode : List ℕ → Model → Answer → Type 0
IsShownCode code m a = IsShownBy (IsShownUnit m) (unit_in m code) a

abbrev pub ShowAnswers : List ℕ → List ℕ → Answer → Type 0
ShowAnswers model code a = IsShownBy (IsShownCode code) (model_in model) a
