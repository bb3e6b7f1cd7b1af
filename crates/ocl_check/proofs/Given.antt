-- What is answered of what the pipeline gives is what the commands answer of the bytes.
use Rattle.std.proofs.Common.{◌≡◌, ℕ, List, length, Result, Ok, Err, IfOk, refl, sym, ap, ◌∙◌}
use Rattle.ocl_base.specs.Steps.{◌>>=◌, Fails}
use Rattle.imkl_model.specs.ClassModel.{Model}
use Rattle.imkl_model.specs.declared.fault.ModelFault.{ModelFault}
use Rattle.imkl_population.specs.Population.{Population}
use Rattle.imkl_population.specs.Sizes.{sizes_of}
use Rattle.imkl_delivery.specs.declared.fault.DeliveryFault.{DeliveryFault}
use Rattle.rule_code.specs.Content.{Content}
use Rattle.rule_code.specs.CodeFile.{CodeFaultAt, unit_of}
use Rattle.rule_verify.specs.KindRules.{InstrFault}
use Rattle.rule_verify.specs.UnitRules.{check_unit}
use Rattle.rule_cost.specs.Admission.{Admission, admission}
use Rattle.desk_script.specs.Script.{script_of}
use Rattle.ocl_pipeline.specs.declared.refusal.Refusal.{Refusal}
use Rattle.ocl_pipeline.specs.declared.refusal.Refusal.TheVariants as refusal
use Rattle.ocl_pipeline.specs.declared.stopped.Stopped.{Stopped}
use Rattle.ocl_pipeline.specs.declared.stopped.Stopped.TheVariants.{Refused, OutOfMemory}
use Rattle.ocl_pipeline.specs.Inputs.{model_of, population_of}
use Rattle.ocl_pipeline.specs.Stops.{stopped}
use Rattle.ocl_pipeline.specs.TextReading.{TextReading}
use Rattle.ocl_pipeline.specs.CompiledRules.{CompiledRules, TextRefusal, InText, InTypes, InCode, compiled_rules}
use Rattle.ocl_pipeline.specs.Steps.{refused_as, code_refusal, verify_refusal, text_refusal, model_in, population_in, inputs_in, accepted_in, unit_in}
use Rattle.ocl_pipeline.specs.Asked.{with_unit, with_rules, with_code, with_text, admission_for, admitted_in}
use Rattle.ocl_check.specs.declared.commands.judge.TheConstants.{MAX_BUDGET}
use Rattle.ocl_check.specs.declared.reply.Reply as reply
use Rattle.ocl_check.specs.Reply.{Answer, said, accepted_reply}
use Rattle.ocl_check.specs.CodeRules.{UnitAnswer, unit_answer, code_answer, code_file_answer}
use Rattle.ocl_check.specs.ThreeInputs.{PopulationAnswer, delivery_answer, model_answer, inputs_answer}
use Rattle.ocl_check.specs.Judge.{report_answer, admitted_answer, budget_answer}
use Rattle.ocl_check.specs.JudgeText.{rules_answer, text_answer}
use Rattle.ocl_check.specs.Desk.{script_answer, admitted_script_answer, calls_answer}
use Rattle.ocl_check.specs.Verify.{checked_answer, verify_code_answer, verify_model_answer, verify_answer}
use Rattle.ocl_check.specs.Given.{given_answer, pair_answer, meant_within, IsRefusedAs, IsDueFor}

-- ---- refusals

-- where this is why the pipeline stopped, its line is due
pub due : {A : Type 0} (why : Stopped) (given : Result A Refusal) (f : A → Answer) → Fails stopped why given → IsDueFor why (given_answer f given)
due (Refused r) given f h = sym (ap (given_answer f) h)
due OutOfMemory given f h = tt

-- a reply that is due is the answer
refused_due : (why : Stopped) (answer a : Answer) → IsRefusedAs why answer → IsDueFor why a → answer ≡ a
refused_due (Refused r) answer a is due = is ∙ due
refused_due OutOfMemory answer a is due = absurd is

pub said_due : {E : Type 0} (made : Result reply.Reply E) (why : Stopped) (a : Answer) → IfOk made (λ r. IsRefusedAs why (said r)) → IsDueFor why a → IfOk made (λ r. said r ≡ a)
said_due (Ok r) why a is due = refused_due why (said r) a is due
said_due (Err e) why a is due = tt

-- ---- a class model and a delivery

-- what is answered of a population is what is answered of the inputs that describe it
module _ {A : Type 0} (f : A → Answer) (step : Population → Result A Refusal) (answer : PopulationAnswer) (same : (p : Population) → given_answer f (step p) ≡ answer p) where
  by_delivery : (o : Result Population DeliveryFault) → given_answer f (refused_as refusal.Delivery o >>= step) ≡ delivery_answer answer o
  by_delivery (Ok p) = same p
  by_delivery (Err e) = refl

  by_model : (delivery : List ℕ) (o : Result Model ModelFault) → given_answer f ((refused_as refusal.Model o >>= population_in delivery) >>= step) ≡ model_answer answer o delivery
  by_model delivery (Ok m) = by_delivery (population_of m delivery)
  by_model delivery (Err e) = refl

  by_inputs : (model delivery : List ℕ) → given_answer f (inputs_in model delivery >>= step) ≡ inputs_answer answer model delivery
  by_inputs model delivery = by_model delivery (model_of model)

-- ---- code files

module _ (f : UnitAnswer) where
  by_unit : (p : Population) (u : Content) (o : Result (Unit {0}) InstrFault) → given_answer (pair_answer f) ((refused_as verify_refusal o >>= (λ _. Ok u)) >>= with_unit p) ≡ unit_answer f p u o
  by_unit p u (Ok x) = refl
  by_unit p u (Err e) = refl

  by_code : (p : Population) (o : Result Content CodeFaultAt) → given_answer (pair_answer f) ((refused_as code_refusal o >>= accepted_in p.model) >>= with_unit p) ≡ code_answer f p o
  by_code p (Ok u) = by_unit p u (check_unit p.model u)
  by_code p (Err l) = refl

  -- what is answered of a code file
  pub code_is_answered : (model delivery code : List ℕ) → given_answer (pair_answer f) (inputs_in model delivery >>= with_code code) ≡ inputs_answer (code_file_answer f code) model delivery
  code_is_answered model delivery code = by_inputs (pair_answer f) (with_code code) (code_file_answer f code) (λ p. by_code p (unit_of code)) model delivery

-- ---- texts

by_rules : (budget : ℕ) (p : Population) (o : Result CompiledRules TextRefusal) → given_answer (meant_within budget) (refused_as text_refusal o >>= with_rules p) ≡ rules_answer budget p o
by_rules budget p (Ok c) = refl
by_rules budget p (Err (InText f)) = refl
by_rules budget p (Err (InTypes f)) = refl
by_rules budget p (Err (InCode l)) = refl

-- what is answered of a text
pub text_is_answered : (budget : ℕ) (t : TextReading) (model delivery : List ℕ) → given_answer (meant_within budget) (inputs_in model delivery >>= with_text t) ≡ inputs_answer (text_answer budget t) model delivery
text_is_answered budget t model delivery = by_inputs (meant_within budget) (with_text t) (text_answer budget t) (λ p. by_rules budget p (compiled_rules p.model t)) model delivery

-- ---- budgets

module _ (p : Population) (u : Content) where
  report_by : (budget : ℕ) (o : Result (Unit {0}) ℕ)
      → given_answer (λ (a : Admission). report_answer p a.resolved.unit) (refused_as refusal.Cost o >>= (λ _. Ok (admission_for budget p u))) ≡ admitted_answer p u o
  report_by budget (Ok x) = refl
  report_by budget (Err r) = refl

  -- the report by admitted code
  pub report_within : (budget : ℕ) → given_answer (λ (a : Admission). report_answer p a.resolved.unit) (admitted_in budget p u) ≡ budget_answer budget p u
  report_within budget = report_by budget (admission u (sizes_of p) budget)

  replies_by : (script : List ℕ) (o : Result (Unit {0}) ℕ)
      → given_answer (λ (a : Admission). script_answer a p (script_of script)) (refused_as refusal.Cost o >>= (λ _. Ok (admission_for MAX_BUDGET p u))) ≡ admitted_script_answer script p u o
  replies_by script (Ok x) = refl
  replies_by script (Err r) = refl

  -- the replies to a script
  pub replies_within : (script : List ℕ) → given_answer (λ (a : Admission). script_answer a p (script_of script)) (admitted_in MAX_BUDGET p u) ≡ calls_answer script p u
  replies_within script = replies_by script (admission u (sizes_of p) MAX_BUDGET)

-- ---- `verify`

-- what is answered of accepted code
abbrev pub accepted_answer : Content → Answer
accepted_answer u = accepted_reply (length u.rules)

by_checked : (u : Content) (o : Result (Unit {0}) InstrFault) → given_answer accepted_answer (refused_as verify_refusal o >>= (λ _. Ok u)) ≡ checked_answer u o
by_checked u (Ok x) = refl
by_checked u (Err e) = refl

by_spelled : (m : Model) (o : Result Content CodeFaultAt) → given_answer accepted_answer (refused_as code_refusal o >>= accepted_in m) ≡ verify_code_answer m o
by_spelled m (Ok u) = by_checked u (check_unit m u)
by_spelled m (Err l) = refl

-- of a code file
pub code_is_verified : (m : Model) (code : List ℕ) → given_answer accepted_answer (unit_in m code) ≡ verify_code_answer m (unit_of code)
code_is_verified m code = by_spelled m (unit_of code)

-- of a class model
abbrev pub verified_for : List ℕ → Model → Answer
verified_for code m = verify_code_answer m (unit_of code)

by_read : (code : List ℕ) (o : Result Model ModelFault) → given_answer (verified_for code) (refused_as refusal.Model o) ≡ verify_model_answer o code
by_read code (Ok m) = refl
by_read code (Err e) = refl

pub model_is_verified : (model code : List ℕ) → given_answer (verified_for code) (model_in model) ≡ verify_answer model code
model_is_verified model code = by_read code (model_of model)
