-- What `judge` prints in a form is its answer in the form, of a population that its inputs describe or of a refusal.
use Rattle.std.proofs.Common.{◌≡◌, inl, inr, ℕ, List, None, Result, Ok, Err, refl, sym, ap, subst}
use Rattle.ocl_base.specs.Steps.{◌>>=◌, Fails}
use Rattle.ocl_base.proofs.ForAbove.{both_steps, ok_is}
use Rattle.imkl_population.specs.Population.{Population}
use Rattle.ocl_pipeline.specs.declared.refusal.Refusal.{Refusal}
use Rattle.ocl_pipeline.specs.declared.refusal.Refusal.TheVariants as refusal
use Rattle.ocl_pipeline.specs.declared.stopped.Stopped.{Stopped}
use Rattle.ocl_pipeline.specs.declared.stopped.Stopped.TheVariants.{Refused, OutOfMemory}
use Rattle.ocl_pipeline.specs.Stops.{stopped}
use Rattle.ocl_pipeline.specs.Inputs.{model_of, population_of}
use Rattle.ocl_pipeline.specs.Steps.{model_in, population_in, inputs_in, unit_in, text_in}
use Rattle.ocl_pipeline.specs.TextReading.{TextReading, ReadsAs}
use Rattle.ocl_pipeline.specs.Asked.{PopulationAndUnit, PopulationAndRules, with_unit, with_rules, with_code, with_text}
use Rattle.ocl_pipeline.proofs.ForAbove.{not_refused}
use Rattle.ocl_check.specs.declared.commands.judge.JudgeOptions.{JudgeOptions}
use Rattle.ocl_check.specs.declared.commands.judge.RulesForm.{RulesForm}
use Rattle.ocl_check.specs.declared.commands.judge.RulesForm.TheVariants.{Code, Text}
use Rattle.ocl_check.specs.Reply.{Answer}
use Rattle.ocl_check.specs.Given.{given_answer}
use Rattle.ocl_check.specs.Judge.{budget_answer}
use Rattle.ocl_check.specs.JudgeText.{JudgeAnswers}
use Rattle.ocl_check.proofs.ForAbove.{code_is_answered, text_is_answered, judged_code, judged_text}
use Rattle.explain_faults.specs.declared.fault.Fault.{Fault}
use Rattle.report_forms.specs.declared.beside.RuleMessage.{RuleMessage}
use Rattle.report_forms.specs.declared.form.Form.{Form}
use Rattle.ocl_explain.specs.declared.weaving.Detail.{Detail}
use Rattle.ocl_explain.specs.declared.weaving.Detail.TheVariants as detail
use Rattle.ocl_explain.specs.FormedReport.{detailed_within, code_detailed_within, WhyAnswersOf, DetailedAnswers, formed_given, IsFormDue, AreInputsOf, IsFormOf}
use Rattle.ocl_explain.proofs.Answering.{explained_answers}

-- where this is why the pipeline stopped, the form of its line is due
pub form_due : {A : Type 0} (form : Form) (path delivery : List ℕ) (messages : List RuleMessage) (faults : List Fault) (why : Stopped) (given : Result A Refusal) (of : A → Population) (f : A → Answer)
    → Fails stopped why given → IsFormDue form path faults why (formed_given form path delivery messages faults of f given)
form_due form path delivery messages faults (Refused r) given of f h = sym (ap (formed_given form path delivery messages faults of f) h)
form_due form path delivery messages faults OutOfMemory given of f h = tt

module _ (form : Form) (path : List ℕ) (messages : List RuleMessage) (faults : List Fault) (model delivery : List ℕ) where
  -- the inputs describe the population
  are_inputs : (p : Population) → inputs_in model delivery ≡ Ok p → AreInputsOf model delivery p
  are_inputs p is =
      let read = both_steps (model_in model) (population_in delivery) p is in
      (read.0, not_refused refusal.Model (model_of model) read.0 read.1, not_refused refusal.Delivery (population_of read.0 delivery) p read.2)

  module _ {A : Type 0} (of : A → Population) (f : A → Answer) (asked : Result A Refusal)
      (described : (x : A) → asked ≡ Ok x → inputs_in model delivery ≡ Ok (of x)) where
    by_given : (g : Result A Refusal) → asked ≡ g → IsFormOf form path messages faults model delivery (given_answer f g) (formed_given form path delivery messages faults of f g)
    by_given (Ok x) is = inr (of x, are_inputs (of x) (described x is), refl)
    by_given (Err r) is = inl (refl, refl)

    is_form : (a : Answer) → given_answer f asked ≡ a → IsFormOf form path messages faults model delivery a (formed_given form path delivery messages faults of f asked)
    is_form a same = subst (λ (x : Answer). IsFormOf form path messages faults model delivery x (formed_given form path delivery messages faults of f asked)) same (by_given asked refl)

  -- of a code file
  code_described : (code : List ℕ) (x : PopulationAndUnit) → (inputs_in model delivery >>= with_code code) ≡ Ok x → inputs_in model delivery ≡ Ok x.0
  code_described code x is =
      let a = both_steps (inputs_in model delivery) (with_code code) x is in
      let b = both_steps (unit_in a.0.model code) (with_unit a.0) x a.2 in
      let same = ok_is (a.0, b.0) x b.2 in
      subst (λ (y : PopulationAndUnit). inputs_in model delivery ≡ Ok y.0) same a.1

  pub code_form : (f : PopulationAndUnit → Answer) (code : List ℕ) (a : Answer) → given_answer f (inputs_in model delivery >>= with_code code) ≡ a
      → IsFormOf form path messages faults model delivery a (formed_given form path delivery messages faults (λ x. x.0) f (inputs_in model delivery >>= with_code code))
  code_form f code a same = is_form (λ x. x.0) f (inputs_in model delivery >>= with_code code) (code_described code) a same

  -- of a text
  text_described : (t : TextReading) (x : PopulationAndRules) → (inputs_in model delivery >>= with_text t) ≡ Ok x → inputs_in model delivery ≡ Ok x.0
  text_described t x is =
      let a = both_steps (inputs_in model delivery) (with_text t) x is in
      let b = both_steps (text_in a.0.model t) (with_rules a.0) x a.2 in
      let same = ok_is (a.0, b.0) x b.2 in
      subst (λ (y : PopulationAndRules). inputs_in model delivery ≡ Ok y.0) same a.1

  pub text_form : (f : PopulationAndRules → Answer) (t : TextReading) (a : Answer) → given_answer f (inputs_in model delivery >>= with_text t) ≡ a
      → IsFormOf form path messages faults model delivery a (formed_given form path delivery messages faults (λ x. x.0) f (inputs_in model delivery >>= with_text t))
  text_form f t a same = is_form (λ x. x.0) f (inputs_in model delivery >>= with_text t) (text_described t) a same

-- ---- with explanations, if these are wanted

module _ (options : JudgeOptions) (model delivery rules : List ℕ) where
  pub code_detailed : (d : Detail) → options.form ≡ Code → DetailedAnswers d options model delivery rules (given_answer (code_detailed_within options.budget d) (inputs_in model delivery >>= with_code rules))
  code_detailed detail.Verdict is =
      subst (JudgeAnswers options model delivery rules) (sym (code_is_answered (budget_answer options.budget) model delivery rules)) (judged_code options.form options.budget model delivery rules is)
  code_detailed (detail.Why shown) is =
      let told = given_answer (code_detailed_within options.budget (detail.Why shown)) (inputs_in model delivery >>= with_code rules) in
      subst (λ (f : RulesForm). WhyAnswersOf f options.budget shown model delivery rules told) (sym is) refl

  pub text_detailed : (w : TextReading) → ReadsAs rules w → (d : Detail) (t : TextReading) → options.form ≡ Text → ReadsAs rules t → DetailedAnswers d options model delivery rules (given_answer (detailed_within w options.budget d) (inputs_in model delivery >>= with_text t))
  text_detailed w spelt detail.Verdict t is reads =
      subst (JudgeAnswers options model delivery rules) (sym (text_is_answered options.budget t model delivery)) (judged_text options.form options.budget model delivery rules t is reads)
  text_detailed w spelt (detail.Why shown) t is reads =
      let told = given_answer (detailed_within w options.budget (detail.Why shown)) (inputs_in model delivery >>= with_text t) in
      subst (λ (f : RulesForm). WhyAnswersOf f options.budget shown model delivery rules told) (sym is) (explained_answers model delivery rules t reads w spelt options.budget shown None)
