-- What is answered of compiled rules is what is answered of their text.
use Rattle.std.proofs.Common.{◌≡◌, ℕ, List, Result, Ok, Err, sym, ap, ◌∙◌, refl}
use Rattle.imkl_model.specs.WellFormed.{IsClassModel}
use Rattle.imkl_population.specs.Population.{Population}
use Rattle.imkl_population.specs.Consistency.{IsConsistent}
use Rattle.imkl_population.specs.Sizes.{sizes_of}
use Rattle.ocl_core.specs.Core.{CheckedRule}
use Rattle.ocl_types.proofs.ForAbove.{all_typed}
use Rattle.rule_code.specs.Content.{Content}
use Rattle.rule_code.specs.WellFormed.{IsUnit}
use Rattle.rule_cost.specs.Admission.{admission}
use Rattle.ocl_compile.specs.Compiling.{compile_of}
use Rattle.ocl_compile.specs.CompileLaws.{AreTypedRules}
use Rattle.ocl_compile.proofs.ForAbove.{compiled_is_accepted}
use Rattle.rule_report.specs.Report.{summary_of}
use Rattle.ocl_check.specs.CodeRules.{unit_answer, code_answer}
use Rattle.ocl_pipeline.specs.TextReading.{TextReading}
use Rattle.ocl_pipeline.specs.CompiledRules.{CompiledRules, compiled_rules}
use Rattle.ocl_pipeline.specs.Asked.{AreCompiledFor}
use Rattle.ocl_pipeline.proofs.ForAbove.{compiled_parts}
use Rattle.ocl_check.specs.Judge.{status_of, report_answer, admitted_answer, budget_answer}
use Rattle.ocl_check.specs.JudgeText.{meant_answer, within_answer, rules_answer, text_answer}
use Rattle.ocl_check.specs.Given.{meant_within}
use Rattle.ocl_check.specs.MeantReport.{meant_report}
use Rattle.ocl_check.proofs.MeantReports.{report_is_meant, summary_is_meant}

module _ (p : Population) (rs : List CheckedRule) (u : Content) (model : IsClassModel p.model) (consistent : IsConsistent p) (typed : AreTypedRules p.model rs) (compiled : compile_of p.model rs ≡ Ok u) (unit : IsUnit u) where
  -- the report of the runs, and its status, are those that the rules mean
  answer_is_meant : report_answer p u ≡ meant_answer p rs
  answer_is_meant =
      ap (λ (bytes : List ℕ). (bytes, status_of (summary_of u p))) (report_is_meant p rs u model consistent typed compiled unit)
      ∙ ap (λ s. (meant_report p rs, status_of s)) (summary_is_meant p rs u model consistent typed compiled unit)

  by_cost : (o : Result (Unit {0}) ℕ) → admitted_answer p u o ≡ within_answer p rs o
  by_cost (Err r) = refl
  by_cost (Ok x) = answer_is_meant

  -- the report within a budget is that of the rules
  pub report_is_within : (budget : ℕ) → budget_answer budget p u ≡ within_answer p rs (admission u (sizes_of p) budget)
  report_is_within budget = by_cost (admission u (sizes_of p) budget)

  -- and the unit is accepted
  text_is_answered : (budget : ℕ) → code_answer (budget_answer budget) p (Ok u) ≡ within_answer p rs (admission u (sizes_of p) budget)
  text_is_answered budget =
      ap (unit_answer (budget_answer budget) p u) (compiled_is_accepted p.model rs u model typed compiled) ∙ by_cost (admission u (sizes_of p) budget)

-- the unit of a text is accepted, and its report within a budget is that of the text
pub text_report : (budget : ℕ) (p : Population) (t : TextReading) (c : CompiledRules) → IsClassModel p.model → IsConsistent p → compiled_rules p.model t ≡ Ok c → IsUnit c.unit
    → code_answer (budget_answer budget) p (Ok c.unit) ≡ text_answer budget t p
text_report budget p t c model consistent compiled unit =
    let parts = compiled_parts p.model t c compiled in
    text_is_answered p c.rules c.unit model consistent (all_typed p.model model 0 parts.0.0 c.rules parts.0.2) parts.1 unit budget
    ∙ sym (ap (rules_answer budget p) compiled)

-- the report by the unit of a text is the one that its rules mean
pub meant_report_is : (budget : ℕ) (p : Population) (t : TextReading) (c : CompiledRules) → AreCompiledFor p t c → budget_answer budget p c.unit ≡ meant_within budget (p, c)
meant_report_is budget p t c h =
    let parts = compiled_parts p.model t c h.compiled in
    report_is_within p c.rules c.unit h.model h.population (all_typed p.model h.model 0 parts.0.0 c.rules parts.0.2) parts.1 h.unit budget
