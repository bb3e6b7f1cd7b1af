-- What old names change: nothing, where present names are used.
use Rattle.std.specs.Prelude.{◌≡◌, ℕ, List, Ok, IfOk}
use Rattle.serde_json.specs.Data.{Data}
use Rattle.imkl_model.specs.ClassModel.{Model, Renames}
use Rattle.imkl_model.specs.WellFormed.{IsClassModel}
use Rattle.imkl_population.specs.Population.{Population}
use Rattle.imkl_population.specs.Sizes.{sizes_of}
use Rattle.imkl_delivery.specs.Loading.{describes_population}
use Rattle.rule_code.specs.Content.{Content}
use Rattle.rule_code.specs.CodeFile.{unit_of}
use Rattle.rule_verify.specs.UnitRules.{check_unit}
use Rattle.rule_cost.specs.Admission.{rule_step_bound, admission}
use Rattle.rule_machine.specs.Laws.{verdict_at}
use Rattle.rule_report.specs.Report.{report_of, summary_of}
use Rattle.ocl_pipeline.specs.Inputs.{model_of}
use Rattle.ocl_check.specs.Verify.{verify_answer}
use Rattle.ocl_check.specs.Bound.{bound_answer}
use Rattle.ocl_check.specs.Judge.{judge_answer}
use Rattle.ocl_check.specs.Desk.{desk_answer}
use Rattle.ocl_pipeline.specs.TextReading.{TextReading}
use Rattle.ocl_check.specs.Compile.{compile_answer}
use Rattle.ocl_check.specs.JudgeText.{judge_text_answer}
use Rattle.old_name_laws.specs.OldNames.{with_old_names, DifferInOldNames, described_with}
use Rattle.old_name_laws.specs.UsedNames.{UsesPresentNames}

-- ---- of class models

-- a document describes one population, whatever old names its class model has
abbrev pub DeliveriesStay : Type 0
DeliveriesStay = (r : Renames) (m : Model) (d : Data) → describes_population (with_old_names r m) d ≡ described_with r (describes_population m d)

-- two class models that differ in old names alone, and a unit whose used symbols are all present names
pub record IsStable (m n : Model) (u : Content) : Type 0 where
  pub first : IsClassModel m
  pub second : IsClassModel n
  pub differ : DifferInOldNames m n
  pub present : UsesPresentNames m u

-- the unit is accepted in both, or has one first fault
abbrev pub ChecksStay : Type 0
ChecksStay = (m n : Model) (u : Content) → IsStable m n u → check_unit n u ≡ check_unit m u

-- the same, and populations of both with the same objects
pub record IsStableOn (p q : Population) (u : Content) : Type 0 where
  pub unit : IsStable p.model q.model u
  pub objects : q.objects ≡ p.objects

-- each rule has the same bound, and so the same units are admitted
abbrev pub BoundsStay : Type 0
BoundsStay = (p q : Population) (u : Content) → IsStableOn p q u → (r : ℕ) → rule_step_bound u (sizes_of q) r ≡ rule_step_bound u (sizes_of p) r

abbrev pub AdmissionsStay : Type 0
AdmissionsStay = (p q : Population) (u : Content) → IsStableOn p q u → (budget : ℕ) → admission u (sizes_of q) budget ≡ admission u (sizes_of p) budget

-- each rule has the same verdict for each object
abbrev pub VerdictsStay : Type 0
VerdictsStay = (p q : Population) (u : Content) → IsStableOn p q u → (r o : ℕ) → verdict_at u q r o ≡ verdict_at u p r o

abbrev pub ReportsStay : Type 0
ReportsStay = (p q : Population) (u : Content) → IsStableOn p q u → (report_of u q ≡ report_of u p) × (summary_of u q ≡ summary_of u p)

-- ---- of the commands' inputs

-- the bytes of two models that differ in old names alone
pub record AreModels (model other : List ℕ) : Type 0 where
  pub one : Model
  pub two : Model
  pub model_is : model_of model ≡ Ok one
  pub other_is : model_of other ≡ Ok two
  pub differ : DifferInOldNames one two

-- the same, and a file that is no code file or whose used symbols are all present names
pub record AreStable (model other code : List ℕ) : Type 0 where
  pub models : AreModels model other
  pub present : IfOk (unit_of code) (UsesPresentNames models.one)

abbrev pub VerifyStays : Type 0
VerifyStays = (model other code : List ℕ) → AreStable model other code → verify_answer other code ≡ verify_answer model code

abbrev pub BoundStays : Type 0
BoundStays = (model other delivery code : List ℕ) → AreStable model other code → bound_answer other delivery code ≡ bound_answer model delivery code

abbrev pub JudgeStays : Type 0
JudgeStays =
    (budget : ℕ) (model other delivery code : List ℕ) → AreStable model other code
    → judge_answer budget other delivery code ≡ judge_answer budget model delivery code

abbrev pub DeskStays : Type 0
DeskStays =
    (model other delivery code script : List ℕ) → AreStable model other code
    → desk_answer other delivery code script ≡ desk_answer model delivery code script

-- what a text is compiled to is the same whatever the text: texts use present names alone
abbrev pub CompileStays : Type 0
CompileStays = (model other : List ℕ) (t : TextReading) → AreModels model other → compile_answer other t ≡ compile_answer model t

-- and so is what is judged by it, in class models
abbrev pub JudgeTextStays : Type 0
JudgeTextStays =
    (budget : ℕ) (model other delivery : List ℕ) (t : TextReading) (models : AreModels model other) → IsClassModel models.one
    → judge_text_answer budget other delivery t ≡ judge_text_answer budget model delivery t
