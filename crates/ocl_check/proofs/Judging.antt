-- What `judge` answers, by the form in which rules come.
use Rattle.std.proofs.Common.{◌≡◌, ℕ, List, refl, sym, subst}
use Rattle.ocl_pipeline.specs.TextReading.{TextReading, ReadsAs}
use Rattle.ocl_check.specs.declared.commands.judge.RulesForm.{RulesForm}
use Rattle.ocl_check.specs.declared.commands.judge.RulesForm.TheVariants as form
use Rattle.ocl_check.specs.Judge.{judge_answer}
use Rattle.ocl_check.specs.JudgeText.{JudgeAnswersBy, judge_text_answer}
use Rattle.ocl_check.specs.Reply.{Answer}

module _ (f : RulesForm) (budget : ℕ) (model delivery rules : List ℕ) where
  pub judged_code : f ≡ form.Code → JudgeAnswersBy f budget model delivery rules (judge_answer budget model delivery rules)
  judged_code is = subst (λ (x : RulesForm). JudgeAnswersBy x budget model delivery rules (judge_answer budget model delivery rules)) (sym is) refl

  pub judged_text : (t : TextReading) → f ≡ form.Text → ReadsAs rules t → JudgeAnswersBy f budget model delivery rules (judge_text_answer budget model delivery t)
  judged_text t is read = subst (λ (x : RulesForm). JudgeAnswersBy x budget model delivery rules (judge_text_answer budget model delivery t)) (sym is) (t, read, refl)

-- equal inputs are answered alike
pub judged_alike : (f : RulesForm) (budget : ℕ) (answer : Answer) (a b c x y z : List ℕ) → a ≡ x → b ≡ y → c ≡ z → JudgeAnswersBy f budget a b c answer → JudgeAnswersBy f budget x y z answer
judged_alike f budget answer a b c x y z ax by cz h =
    subst (λ (l : List ℕ). JudgeAnswersBy f budget x y l answer) cz
    (subst (λ (l : List ℕ). JudgeAnswersBy f budget x l c answer) by (subst (λ (l : List ℕ). JudgeAnswersBy f budget l b c answer) ax h))

-- each text is judged in some way
pub some_answer : ((bytes : List ℕ) → (t : TextReading) × ReadsAs bytes t) → (f : RulesForm) (budget : ℕ) (model delivery rules : List ℕ) → (a : Answer) × JudgeAnswersBy f budget model delivery rules a
some_answer each form.Code budget model delivery rules = (judge_answer budget model delivery rules, refl)
some_answer each form.Text budget model delivery rules =
    let t = each rules in (judge_text_answer budget model delivery t.0, (t.0, t.1, refl))
