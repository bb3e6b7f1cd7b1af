-- Texts of all rules, each with a mark: some that may be shown of any unit.
use Rattle.std.proofs.Common.{inl, inr, ℕ, zero, suc, List, [], ◌++◌, length, Result, Ok, Err, refl}
use Rattle.imkl_model.specs.ClassModel.{Model}
use Rattle.rule_code.specs.Content.{Content}
use Rattle.ocl_check.specs.Reply.{Answer}
use Rattle.ocl_check.specs.Given.{given_answer}
use Rattle.ocl_pipeline.specs.declared.refusal.Refusal.{Refusal}
use Rattle.ocl_pipeline.specs.Steps.{unit_in}
use Rattle.code_as_ocl.specs.ShownRules.{rule_marked}
use Rattle.code_as_ocl.specs.SaidRules.{AreRuleTexts}
use Rattle.ocl_explain.specs.ShownCode.{IsShownUnit, IsShownBy, IsShownCode}

module _ (m : Model) (u : Content) where
  abbrev pub all_marked : ℕ → List ℕ
  all_marked zero = []
  all_marked (suc n) = all_marked n ++ rule_marked m u [] n

  are_marked : (n : ℕ) → AreRuleTexts m u n (all_marked n)
  are_marked zero = refl
  are_marked (suc n) = (all_marked n, rule_marked m u [] n, are_marked n, inr (inl ([], refl)), refl)

  abbrev pub marked_unit : Answer
  marked_unit = (all_marked (length u.rules), 0)

  pub unit_marked : IsShownUnit m u marked_unit
  unit_marked = (are_marked (length u.rules), refl)

abbrev pub marked_code : List ℕ → Model → Answer
marked_code code m = given_answer (marked_unit m) (unit_in m code)

-- what may be shown of anything that is given may be shown of what an input gives
pub given_shown : {A : Type 0} (Shown : A → Answer → Type 0) (f : A → Answer) → ((x : A) → Shown x (f x)) → (given : Result A Refusal) → IsShownBy Shown given (given_answer f given)
given_shown Shown f shows (Ok x) = shows x
given_shown Shown f shows (Err r) = refl

pub code_marked : (code : List ℕ) (m : Model) → IsShownCode code m (marked_code code m)
code_marked code m = given_shown (IsShownUnit m) (marked_unit m) (unit_marked m) (unit_in m code)
