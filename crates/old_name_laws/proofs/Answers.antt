-- The laws of the commands' answers.
use Rattle.std.proofs.Common.{◌≡◌, ◌∙◌, ℕ, zero, suc, List, ◌++◌, length, Option, Some, None, Result, Ok, Err, IfOk, refl, sym, ap, subst}
use Rattle.serde_json.specs.Data.{Data}
use Rattle.imkl_model.specs.declared.fault.ModelFault.{ModelFault}
use Rattle.imkl_model.specs.ClassModel.{Model}
use Rattle.imkl_population.specs.Population.{Population}
use Rattle.imkl_population.specs.Sizes.{sizes_of}
use Rattle.imkl_delivery.specs.declared.fault.DeliveryFault.{DeliveryFault}
use Rattle.imkl_delivery.specs.Loading.{describes_population}
use Rattle.rule_code.specs.Content.{Content}
use Rattle.rule_code.specs.CodeFile.{CodeFaultAt, unit_of}
use Rattle.rule_verify.specs.Laws.{PresentSymbolsStay}
use Rattle.rule_verify.specs.KindRules.{InstrFault}
use Rattle.rule_verify.specs.UnitRules.{check_unit}
use Rattle.rule_cost.specs.Admission.{admission}
use Rattle.rule_report.specs.Report.{name_of}
use Rattle.rule_cost.specs.Limits.{limited_bound}
use Rattle.desk_script.specs.declared.call.Call.{Call}
use Rattle.desk_script.specs.Script.{script_of}
use Rattle.ocl_check.specs.declared.commands.judge.TheConstants.{MAX_BUDGET}
use Rattle.ocl_pipeline.specs.Inputs.{json_of, model_by, population_by}
use Rattle.ocl_check.specs.ThreeInputs.{PopulationAnswer, delivery_answer, model_answer, inputs_answer}
use Rattle.ocl_check.specs.CodeRules.{UnitAnswer, unit_answer, code_answer, code_file_answer}
use Rattle.ocl_check.specs.Verify.{checked_answer, verify_code_answer, verify_model_answer, verify_answer}
use Rattle.ocl_check.specs.Bound.{bound_line_of, bounds_below, bounds_answer}
use Rattle.ocl_check.specs.Judge.{status_of, admitted_answer, budget_answer}
use Rattle.ocl_check.specs.Desk.{desk_admission, script_answer, admitted_script_answer, calls_answer}
use Rattle.old_name_laws.specs.OldNames.{with_old_names, population_with, described_with}
use Rattle.old_name_laws.specs.UsedNames.{UsesPresentNames}
use Rattle.old_name_laws.specs.Laws.{AreModels, AreStable, VerifyStays, BoundStays, JudgeStays, DeskStays}
use Rattle.old_name_laws.proofs.Deliveries.{described_alike}
use Rattle.old_name_laws.proofs.Desks.{scripts_alike}
use Rattle.old_name_laws.proofs.Present.{described_symbols_stay}
use Rattle.old_name_laws.proofs.Stable.{Stands, StandsOn, same_check, same_bounds, same_admissions, same_report, same_summary, same_charges, same_costs, same_lines}

-- a described population is of the class model
abbrev pub DescribedIn : Type 0
DescribedIn = (m : Model) (d : Data) (p : Population) → describes_population m d ≡ Ok p → p.model ≡ m

-- in a model that a file describes present symbols stay
read_symbols_stay : (d : Option Data) (m : Model) → model_by d ≡ Ok m → PresentSymbolsStay m
read_symbols_stay None m is = cc
read_symbols_stay (Some d) m is = described_symbols_stay d m is

-- in both models of the bytes present symbols stay
pub first_stays : (model other : List ℕ) (h : AreModels model other) → PresentSymbolsStay h.one
first_stays model other h = read_symbols_stay (json_of model) h.one h.model_is

pub second_stays : (model other : List ℕ) (h : AreModels model other) → PresentSymbolsStay h.two
second_stays model other h = read_symbols_stay (json_of other) h.two h.other_is

-- ---- what is answered of all inputs stays where it does on populations that differ in old names

module _ (within : DescribedIn) (model other : List ℕ) (h : AreModels model other) (f : PopulationAnswer)
    (stays : (p : Population) → p.model ≡ h.one → f (population_with h.two.renames p) ≡ f p) where
  of_described : (x : Result Population DeliveryFault) → ((p : Population) → x ≡ Ok p → p.model ≡ h.one)
      → delivery_answer f (described_with h.two.renames x) ≡ delivery_answer f x
  of_described (Err e) is = refl
  of_described (Ok p) is = stays p (is p refl)

  of_tree : (d : Option Data) → delivery_answer f (population_by h.two d) ≡ delivery_answer f (population_by h.one d)
  of_tree None = refl
  of_tree (Some d) =
      ap (delivery_answer f) (ap (λ (m : Model). describes_population m d) h.differ ∙ described_alike h.two.renames h.one d)
      ∙ of_described (describes_population h.one d) (λ p is. within h.one d p is)

  -- the answer by the other class model is that by the first
  pub answers_stay : (delivery : List ℕ) → inputs_answer f other delivery ≡ inputs_answer f model delivery
  answers_stay delivery =
      ap (λ (x : Result Model ModelFault). model_answer f x delivery) h.other_is ∙ of_tree (json_of delivery)
      ∙ sym (ap (λ (x : Result Model ModelFault). model_answer f x delivery) h.model_is)

-- ---- of a population and a unit

-- what is answered of a unit of present names stays
abbrev UnitStays : UnitAnswer → Type 0
UnitStays f = (p q : Population) (u : Content) → StandsOn p q u → f q u ≡ f p u

bound_lines_stay : (p q : Population) (u : Content) → StandsOn p q u → (n : ℕ) → bounds_below u (sizes_of q) n ≡ bounds_below u (sizes_of p) n
bound_lines_stay p q u h zero = refl
bound_lines_stay p q u h (suc r) = λ j. bound_lines_stay p q u h r j ++ bound_line_of (name_of u r) (limited_bound (same_bounds p q u h r j))

bounds_answer_stays : UnitStays bounds_answer
bounds_answer_stays p q u h = λ j. (bound_lines_stay p q u h (length u.rules) j, 0)

admitted_stays : (p q : Population) (u : Content) → StandsOn p q u → (x : Result (Unit {0}) ℕ) → admitted_answer q u x ≡ admitted_answer p u x
admitted_stays p q u h (Err r) = refl
admitted_stays p q u h (Ok done) = λ j. (same_report p q u h j, status_of (same_summary p q u h j))

budget_answer_stays : (budget : ℕ) → UnitStays (budget_answer budget)
budget_answer_stays budget p q u h =
    ap (admitted_answer q u) (same_admissions p q u h budget) ∙ admitted_stays p q u h (admission u (sizes_of p) budget)

script_stays : (p q : Population) (u : Content) → StandsOn p q u → (x : Result (List Call) ℕ)
    → script_answer (desk_admission q u) q x ≡ script_answer (desk_admission p u) p x
script_stays p q u h (Err line) = refl
script_stays p q u h (Ok calls) =
    λ j. (scripts_alike (desk_admission p u) (desk_admission q u) p q calls (same_charges p q u h) (same_costs p q u h) (same_lines p q u h) j, 0)

admitted_script_stays : (script : List ℕ) (p q : Population) (u : Content) → StandsOn p q u → (x : Result (Unit {0}) ℕ)
    → admitted_script_answer script q u x ≡ admitted_script_answer script p u x
admitted_script_stays script p q u h (Err r) = refl
admitted_script_stays script p q u h (Ok done) = script_stays p q u h (script_of script)

calls_answer_stays : (script : List ℕ) → UnitStays (calls_answer script)
calls_answer_stays script p q u h =
    ap (admitted_script_answer script q u) (same_admissions p q u h MAX_BUDGET) ∙ admitted_script_stays script p q u h (admission u (sizes_of p) MAX_BUDGET)

-- ---- of a population and a code file

unit_stays : (f : UnitAnswer) → UnitStays f → (p q : Population) (u : Content) → StandsOn p q u → (x : Result (Unit {0}) InstrFault)
    → unit_answer f q u x ≡ unit_answer f p u x
unit_stays f stays p q u h (Err e) = refl
unit_stays f stays p q u h (Ok done) = stays p q u h

code_stays : (f : UnitAnswer) → UnitStays f → (p q : Population) → q.objects ≡ p.objects → (c : Result Content CodeFaultAt)
    → IfOk c (λ u. Stands p.model q.model u) → code_answer f q c ≡ code_answer f p c
code_stays f stays p q objects (Err l) h = refl
code_stays f stays p q objects (Ok u) h =
    ap (unit_answer f q u) (same_check p.model q.model u h) ∙ unit_stays f stays p q u (record { unit = h; objects = objects }) (check_unit p.model u)

module _ (model other code : List ℕ) (h : AreStable model other code) where
  abbrev one : Model
  one = h.models.one

  abbrev two : Model
  two = h.models.two

  code_stands : (c : Result Content CodeFaultAt) → IfOk c (UsesPresentNames one) → IfOk c (λ u. Stands one two u)
  code_stands (Err l) present = tt
  code_stands (Ok u) present =
      record { first = first_stays model other h.models; second = second_stays model other h.models; differ = h.models.differ; present = present }

  stands : IfOk (unit_of code) (λ u. Stands one two u)
  stands = code_stands (unit_of code) h.present

  -- ---- of a class model and a code file

  verified : (c : Result Content CodeFaultAt) → IfOk c (λ u. Stands one two u) → verify_code_answer two c ≡ verify_code_answer one c
  verified (Err l) its = refl
  verified (Ok u) its = ap (checked_answer u) (same_check one two u its)

  verify : verify_answer other code ≡ verify_answer model code
  verify =
      ap (λ (x : Result Model ModelFault). verify_model_answer x code) h.models.other_is ∙ verified (unit_of code) stands
      ∙ sym (ap (λ (x : Result Model ModelFault). verify_model_answer x code) h.models.model_is)

  -- ---- of all inputs

  inputs : DescribedIn → (f : UnitAnswer) → UnitStays f → (delivery : List ℕ)
      → inputs_answer (code_file_answer f code) other delivery ≡ inputs_answer (code_file_answer f code) model delivery
  inputs within f stays delivery =
      answers_stay within model other h.models (code_file_answer f code)
      (λ p its. code_stays f stays p (population_with two.renames p) refl (unit_of code)
      (subst (λ (m : Model). IfOk (unit_of code) (λ u. Stands m (with_old_names two.renames m) u)) (sym its)
      (subst (λ (n : Model). IfOk (unit_of code) (λ u. Stands one n u)) h.models.differ stands))) delivery

-- ---- the commands

pub verify_stays : VerifyStays
verify_stays model other code h = verify model other code h

pub bound_stays : DescribedIn → BoundStays
bound_stays within model other delivery code h = inputs model other code h within bounds_answer bounds_answer_stays delivery

pub judge_stays : DescribedIn → JudgeStays
judge_stays within budget model other delivery code h = inputs model other code h within (budget_answer budget) (budget_answer_stays budget) delivery

pub desk_stays : DescribedIn → DeskStays
desk_stays within model other delivery code script h = inputs model other code h within (calls_answer script) (calls_answer_stays script) delivery
