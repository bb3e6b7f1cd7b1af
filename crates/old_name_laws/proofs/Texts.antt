-- The laws of the answers by rule texts.
use Rattle.std.proofs.Common.{◌≡◌, ◌∙◌, ℕ, List, All, Result, Ok, Err, refl, sym, ap, subst}
use Rattle.ocl_pipeline.proofs.ForAbove.{types_are, code_is}
use Rattle.ocl_base.proofs.ForAbove.{both_steps}
use Rattle.imkl_model.specs.declared.fault.ModelFault.{ModelFault}
use Rattle.imkl_model.specs.ClassModel.{Model, Renames, no_renames}
use Rattle.imkl_model.specs.WellFormed.{IsClassModel}
use Rattle.imkl_population.specs.declared.object.Object.{Object}
use Rattle.imkl_population.specs.Population.{Population}
use Rattle.imkl_population.specs.Sizes.{sizes_of}
use Rattle.ocl_text.specs.Tree.{Rule}
use Rattle.ocl_core.specs.Core.{CheckedRule}
use Rattle.ocl_types.specs.AllRules.{elaborate_rules}
use Rattle.ocl_types.proofs.ForAbove.{all_typed}
use Rattle.rule_code.specs.Content.{Content}
use Rattle.rule_verify.specs.Laws.{PresentSymbolsStay, SymbolsNameAsWritten}
use Rattle.rule_cost.specs.Admission.{admission}
use Rattle.ocl_compile.specs.Compiling.{compile_of}
use Rattle.ocl_compile.specs.CompileLaws.{CompiledIsAccepted}
use Rattle.ocl_check.specs.Judge.{status_of}
use Rattle.ocl_check.specs.JudgeText.{within_answer, rules_answer, text_answer}
use Rattle.ocl_pipeline.specs.TextReading.{TextReading}
use Rattle.ocl_pipeline.specs.CompiledRules.{CompiledRules, TextRefusal, in_text, in_types, compiled_rules}
use Rattle.ocl_check.specs.Compile.{compiled_answer, compile_model_answer}
use Rattle.old_name_laws.specs.OldNames.{with_old_names, population_with}
use Rattle.old_name_laws.specs.Laws.{CompileStays, JudgeTextStays}
use Rattle.old_name_laws.proofs.Symbols.{Case, other, RuleAgrees}
use Rattle.old_name_laws.proofs.Accepted.{bare_is_class_model, accepted_agrees}
use Rattle.old_name_laws.proofs.Costs.{admission_alike}
use Rattle.old_name_laws.proofs.Meanings.{summary_meant_alike, report_meant_alike}
use Rattle.old_name_laws.proofs.Compiled.{compile_alike, rules_alike, compiled_alike}
use Rattle.old_name_laws.proofs.Answers.{DescribedIn, first_stays, second_stays, answers_stay}

-- without old names symbols name what they write
abbrev pub NamesAsWritten : Type 0
NamesAsWritten = (m : Model) → m.renames ≡ no_renames → SymbolsNameAsWritten m

-- ---- what the compiled rules of a text are

-- the typed rules, and the unit
pub record Parts (m : Model) (c : CompiledRules) : Type 0 where
  pub rules : List Rule
  pub typed : elaborate_rules m 0 rules ≡ Ok c.rules
  pub compiled : compile_of m c.rules ≡ Ok c.unit

parts_of : (m : Model) (t : TextReading) (c : CompiledRules) → compiled_rules m t ≡ Ok c → Parts m c
parts_of m t c h =
    let a = both_steps (in_text t) _ c h in
    let b = both_steps (in_types (elaborate_rules m 0 a.0)) _ c a.2 in
    let d = code_is b.0 (compile_of m b.0) c b.2 in
    record {
      rules = a.0;
      typed = types_are (elaborate_rules m 0 a.0) b.0 b.1 ∙ ap Ok d.0;
      compiled = ap (compile_of m) (sym d.0) ∙ d.1;
    }

module _ (written : NamesAsWritten) (accepted : CompiledIsAccepted) where
  module _ (r : Renames) (m : Model) (well : IsClassModel m) (first : PresentSymbolsStay m) (second : PresentSymbolsStay (with_old_names r m)) where
    abbrev case : Content → Case
    case u = record { model = m; renames = r; unit = u }

    -- compiled code uses present names
    compiled_agrees : (c : CompiledRules) → Parts m c → All (RuleAgrees (case c.unit)) c.unit.rules
    compiled_agrees c h =
        let plain : IsClassModel (with_old_names no_renames m) = bare_is_class_model m well in
        accepted_agrees (case c.unit) (record { first = first; second = second }) (written (with_old_names no_renames m) refl)
        (accepted (with_old_names no_renames m) c.rules c.unit plain (all_typed (with_old_names no_renames m) plain 0 h.rules c.rules (rules_alike no_renames m 0 h.rules ∙ h.typed))
        (compile_alike no_renames m c.rules ∙ h.compiled))

    module _ (budget : ℕ) (t : TextReading) (objects : List Object) where
      abbrev p : Population
      p = record { model = m; objects = objects }

      abbrev q : Population
      q = population_with r p

      within : (rs : List CheckedRule) (x : Result (Unit {0}) ℕ) → within_answer q rs x ≡ within_answer p rs x
      within rs (Err n) = refl
      within rs (Ok done) = λ j. (report_meant_alike r p rs j, status_of (summary_meant_alike r p rs j))

      of_rules : (x : Result CompiledRules TextRefusal) → compiled_rules m t ≡ x → rules_answer budget q x ≡ rules_answer budget p x
      of_rules (Err refusal) is = refl
      of_rules (Ok c) is =
          ap (within_answer q c.rules) (admission_alike (case c.unit) (compiled_agrees c (parts_of m t c is)) objects budget)
          ∙ within c.rules (admission c.unit (sizes_of p) budget)

      of_text : text_answer budget t q ≡ text_answer budget t p
      of_text = ap (rules_answer budget q) (compiled_alike r m t) ∙ of_rules (compiled_rules m t) refl

  -- what is judged by a text
  pub judge_text_stays : DescribedIn → JudgeTextStays
  judge_text_stays described budget model other delivery t h well =
      answers_stay described model other h (text_answer budget t)
      (λ p its. of_text h.two.renames p.model (subst IsClassModel (sym its) well) (subst PresentSymbolsStay (sym its) (first_stays model other h))
      (subst (λ (m : Model). PresentSymbolsStay (with_old_names h.two.renames m)) (sym its) (subst PresentSymbolsStay h.differ (second_stays model other h))) budget t p.objects) delivery

-- ---- what a text is compiled to

pub compile_stays : CompileStays
compile_stays model other t h =
    ap (λ (x : Result Model ModelFault). compile_model_answer x t) h.other_is
    ∙ ap compiled_answer (ap (λ (m : Model). compiled_rules m t) h.differ ∙ compiled_alike h.two.renames h.one t)
    ∙ sym (ap (λ (x : Result Model ModelFault). compile_model_answer x t) h.model_is)
