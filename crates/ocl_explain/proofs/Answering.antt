-- What is answered of a class model, a delivery and the rules of a text: by one function of a report, and of each refusal its line.
use Rattle.std.proofs.Common.{◌≡◌, inl, inr, ◌∙◌, ℕ, List, Option, Result, Ok, Err, refl, sym, ap, subst}
use Rattle.ocl_base.specs.Steps.{◌>>=◌}
use Rattle.ocl_base.proofs.ForAbove.{both_steps, ok_is}
use Rattle.imkl_population.specs.Population.{Population}
use Rattle.imkl_population.specs.Sizes.{sizes_of}
use Rattle.rule_cost.specs.Admission.{admission}
use Rattle.ocl_pipeline.specs.declared.refusal.Refusal.{Refusal}
use Rattle.ocl_pipeline.specs.declared.refusal.Refusal.TheVariants as refusal
use Rattle.ocl_pipeline.specs.TextReading.{TextReading, ReadsAs}
use Rattle.ocl_pipeline.specs.CompiledRules.{CompiledRules, compiled_rules}
use Rattle.ocl_pipeline.specs.Inputs.{model_of, population_of}
use Rattle.ocl_pipeline.specs.Steps.{refused_as, text_refusal, model_in, population_in, inputs_in, text_in}
use Rattle.ocl_pipeline.specs.Asked.{PopulationAndRules, with_rules, with_text, text_with, admission_for}
use Rattle.ocl_pipeline.proofs.ForAbove.{compiled_parts, not_refused}
use Rattle.ocl_check.specs.declared.commands.judge.TheConstants.{MAX_BUDGET}
use Rattle.ocl_check.specs.Reply.{Answer, refused}
use Rattle.ocl_check.specs.Given.{given_answer, meant_within}
use Rattle.ocl_check.specs.JudgeText.{within_answer, rules_answer, judge_text_answer}
use Rattle.ocl_check.proofs.ForAbove.{text_is_answered}
use Rattle.ocl_explain.specs.declared.weaving.Shown.{Shown}
use Rattle.ocl_explain.specs.Judged.{AreJudged, IsRefusedBy}
use Rattle.ocl_explain.specs.RuleNames.{names_by}
use Rattle.ocl_explain.specs.WhyAnswers.{why_text, why_answer, shown_answer, WhyAnswers}
use Rattle.ocl_explain.specs.ExplainedReport.{rules_explainer, explained_answer, ExplainedAnswers}
use Rattle.ocl_explain.specs.Explained.{why_of, explained_within}

module _ (budget : ℕ) (model delivery rules : List ℕ) (t : TextReading) (reads : ReadsAs rules t) where
  abbrev pub asked : Result PopulationAndRules Refusal
  asked = text_with t (inputs_in model delivery)

  -- the answer of `judge` to the same
  judged : (g : Result PopulationAndRules Refusal) → asked ≡ g → given_answer (meant_within budget) g ≡ judge_text_answer budget model delivery t
  judged g is = ap (given_answer (meant_within budget)) (sym is) ∙ text_is_answered budget t model delivery

  is_refused : (r : Refusal) → refused r ≡ judge_text_answer budget model delivery t → IsRefusedBy budget model delivery rules (refused r)
  is_refused r is = ((t, reads, is), refl)

  module _ (p : Population) (c : CompiledRules) (is : asked ≡ Ok (p, c)) where
    -- the inputs describe the population, and the rules are compiled for its class model
    inputs_are : (inputs_in model delivery ≡ Ok p) × (compiled_rules p.model t ≡ Ok c)
    inputs_are =
        let a = both_steps (inputs_in model delivery) (with_text t) (p, c) is in
        let b = both_steps (text_in a.0.model t) (with_rules a.0) (p, c) a.2 in
        let same = ok_is (a.0, b.0) (p, c) b.2 in
        let compiled = not_refused text_refusal (compiled_rules a.0.model t) b.0 b.1 in
        let both : (inputs_in model delivery ≡ Ok a.0) × (compiled_rules a.0.model t ≡ Ok b.0) = (a.1, compiled) in
        subst (λ (x : Population × CompiledRules). (inputs_in model delivery ≡ Ok x.0) × (compiled_rules x.0.model t ≡ Ok x.1)) same both

    -- so they are judged, where each rule is within the budget
    pub are_judged : (x : Unit {0}) → admission c.unit (sizes_of p) budget ≡ Ok x → AreJudged budget model delivery rules p c.rules
    are_judged x within =
        let h = inputs_are in
        let read = both_steps (model_in model) (population_in delivery) p h.0 in
        let of_text = (compiled_parts p.model t c h.1).0 in
        let same = subst (λ (r : TextReading). compiled_rules p.model r ≡ Ok c) of_text.1 h.1 in
        let of_rules = ap (rules_answer budget p) same ∙ ap (within_answer p c.rules) within in (
          read.0,
          not_refused refusal.Model (model_of model) read.0 read.1,
          not_refused refusal.Delivery (population_of read.0 delivery) p read.2,
          (of_text.0, subst (ReadsAs rules) of_text.1 reads, of_text.2, of_rules),
        )

  -- an answer by a population, its rules, and whether these are within the budget
  module _ (Answers : Answer → Type 0) (f : Population → CompiledRules → Result (Unit {0}) ℕ → Answer)
      (of_report : (p : Population) (c : CompiledRules) (x : Unit {0}) → AreJudged budget model delivery rules p c.rules → Answers (f p c (Ok x)))
      (of_cost : (p : Population) (c : CompiledRules) (r : ℕ) → f p c (Err r) ≡ refused (refusal.Cost r))
      (of_refusal : (a : Answer) → IsRefusedBy budget model delivery rules a → Answers a) where
    by_cost : (p : Population) (c : CompiledRules) → asked ≡ Ok (p, c) → (o : Result (Unit {0}) ℕ) → admission c.unit (sizes_of p) budget ≡ o → Answers (f p c o)
    by_cost p c is (Ok x) within = of_report p c x (are_judged p c is x within)
    by_cost p c is (Err r) within =
        let line = sym (ap (within_answer p c.rules) within) ∙ judged (Ok (p, c)) is in
        subst Answers (sym (of_cost p c r)) (of_refusal (refused (refusal.Cost r)) (is_refused (refusal.Cost r) line))

    by_asked : (g : Result PopulationAndRules Refusal) → asked ≡ g → Answers (given_answer (λ (a : PopulationAndRules). f a.0 a.1 (admission a.1.unit (sizes_of a.0) budget)) g)
    by_asked (Ok (p, c)) is = by_cost p c is (admission c.unit (sizes_of p) budget) refl
    by_asked (Err r) is = of_refusal (refused r) (is_refused r (judged (Err r) is))

    answers : Answers (given_answer (λ (a : PopulationAndRules). f a.0 a.1 (admission a.1.unit (sizes_of a.0) budget)) asked)
    answers = by_asked asked refl

module _ (model delivery rules : List ℕ) (t : TextReading) (reads : ReadsAs rules t) where
  -- `why`
  module _ (w : TextReading) (spelt : ReadsAs rules w) (name id : List ℕ) (lines : ℕ) where
    abbrev why_by : Population → CompiledRules → Result (Unit {0}) ℕ → Answer
    why_by p c o = given_answer (λ _. shown_answer lines (why_answer (why_text p (names_by w c.rules) c.rules name id))) (refused_as refusal.Cost o >>= (λ _. Ok (admission_for MAX_BUDGET p c.unit)))

    pub why_answers : WhyAnswers model delivery rules name id lines (given_answer (why_of w name id lines) (asked MAX_BUDGET model delivery rules t reads))
    why_answers =
        answers MAX_BUDGET model delivery rules t reads (WhyAnswers model delivery rules name id lines) why_by
        (λ p c x are. inl (why_answer (why_text p (names_by w c.rules) c.rules name id), (p, c.rules, w, spelt, are, refl), refl)) (λ p c r. refl) (λ a is. inr is)

  -- `judge --why`, and `why` of a rule
  module _ (w : TextReading) (spelt : ReadsAs rules w) (budget : ℕ) (shown : Shown) (rule : Option (List ℕ)) where
    abbrev explained_by : Population → CompiledRules → Result (Unit {0}) ℕ → Answer
    explained_by p c o = explained_answer (rules_explainer p (names_by w c.rules) c.rules) shown rule (within_answer p c.rules o)

    pub explained_answers : ExplainedAnswers budget shown rule model delivery rules (given_answer (explained_within w budget shown rule) (asked budget model delivery rules t reads))
    explained_answers =
        answers budget model delivery rules t reads (ExplainedAnswers budget shown rule model delivery rules) explained_by
        (λ p c x are. inl (p, c.rules, w, spelt, are, refl)) (λ p c r. refl) (λ a is. inr is)
