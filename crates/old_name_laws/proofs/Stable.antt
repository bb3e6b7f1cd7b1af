-- The laws of units and populations, from what they assume.
use Rattle.std.proofs.Common.{◌≡◌, ◌∙◌, ℕ, All, ap, subst}
use Rattle.std.proofs.lemmas.List.Elements.{All-weaker}
use Rattle.imkl_model.specs.ClassModel.{Model}
use Rattle.imkl_model.specs.WellFormed.{IsClassModel}
use Rattle.imkl_population.specs.Population.{Population}
use Rattle.imkl_population.specs.Sizes.{sizes_of}
use Rattle.rule_code.specs.Content.{Content}
use Rattle.rule_verify.specs.Laws.{PresentSymbolsStay}
use Rattle.rule_verify.specs.UnitRules.{check_unit}
use Rattle.rule_cost.specs.Admission.{rule_step_bound, admission}
use Rattle.rule_machine.specs.Laws.{verdict_at}
use Rattle.rule_report.specs.Report.{report_of, summary_of}
use Rattle.rule_desk.specs.Job.{charges_of, costs_of, lines_at}
use Rattle.old_name_laws.specs.OldNames.{DifferInOldNames}
use Rattle.old_name_laws.specs.UsedNames.{RuleUsesPresentNames, UsesPresentNames}
use Rattle.old_name_laws.specs.Laws.{IsStable, IsStableOn, ChecksStay, BoundsStay, AdmissionsStay, VerdictsStay, ReportsStay}
use Rattle.old_name_laws.proofs.Symbols.{Case, in_other, RuleAgrees, rule_agrees}
use Rattle.old_name_laws.proofs.Checks.{unit_checked}
use Rattle.old_name_laws.proofs.Costs.{rule_bound_alike, admission_alike}
use Rattle.old_name_laws.proofs.Runs.{verdict_alike}
use Rattle.old_name_laws.proofs.Reports.{report_alike, summary_alike}
use Rattle.old_name_laws.proofs.Jobs.{charges_of_alike, costs_alike, lines_alike}

-- two models that differ in old names alone, in both of which present symbols stay, and a unit of these
pub record Stands (m n : Model) (u : Content) : Type 0 where
  pub first : PresentSymbolsStay m
  pub second : PresentSymbolsStay n
  pub differ : DifferInOldNames m n
  pub present : UsesPresentNames m u

-- the same, and populations of both with the same objects
pub record StandsOn (p q : Population) (u : Content) : Type 0 where
  pub unit : Stands p.model q.model u
  pub objects : q.objects ≡ p.objects

module _ (m n : Model) (u : Content) (h : Stands m n u) where
  abbrev case : Case
  case = record { model = m; renames = n.renames; unit = u }

  rules_agree : All (RuleAgrees case) u.rules
  rules_agree =
      All-weaker (RuleUsesPresentNames m u) (RuleAgrees case)
      (rule_agrees case (record { first = h.first; second = subst PresentSymbolsStay h.differ h.second })) u.rules h.present

  -- the unit is accepted in both, or has the same first fault
  pub same_check : check_unit n u ≡ check_unit m u
  same_check = ap (λ (k : Model). check_unit k u) h.differ ∙ unit_checked case rules_agree

module _ (p q : Population) (u : Content) (h : StandsOn p q u) where
  abbrev its : Case
  its = case p.model q.model u h.unit

  agree : All (RuleAgrees its) u.rules
  agree = rules_agree p.model q.model u h.unit

  same : q ≡ in_other its p.objects
  same = λ j. record { model = h.unit.differ j; objects = h.objects j }

  -- its bounds, admission, report and counts are the same
  pub same_bounds : (r : ℕ) → rule_step_bound u (sizes_of q) r ≡ rule_step_bound u (sizes_of p) r
  same_bounds r = ap (λ (y : Population). rule_step_bound u (sizes_of y) r) same ∙ rule_bound_alike its agree p.objects r

  pub same_admissions : (budget : ℕ) → admission u (sizes_of q) budget ≡ admission u (sizes_of p) budget
  same_admissions budget = ap (λ (y : Population). admission u (sizes_of y) budget) same ∙ admission_alike its agree p.objects budget

  same_verdicts : (r o : ℕ) → verdict_at u q r o ≡ verdict_at u p r o
  same_verdicts r o = ap (λ (y : Population). verdict_at u y r o) same ∙ verdict_alike its agree p.objects r o

  pub same_report : report_of u q ≡ report_of u p
  same_report = ap (report_of u) same ∙ report_alike its agree p.objects

  pub same_summary : summary_of u q ≡ summary_of u p
  same_summary = ap (summary_of u) same ∙ summary_alike its agree p.objects

  -- so are the charges, the costs and the lines of its job
  pub same_charges : charges_of u q ≡ charges_of u p
  same_charges = ap (charges_of u) same ∙ charges_of_alike its agree p.objects

  pub same_costs : costs_of u q ≡ costs_of u p
  same_costs = ap (costs_of u) same ∙ costs_alike its agree p.objects

  pub same_lines : lines_at u q ≡ lines_at u p
  same_lines = ap (lines_at u) same ∙ lines_alike its agree p.objects

-- ---- in class models present symbols stay

abbrev pub SymbolsStay : Type 0
SymbolsStay = (m : Model) → IsClassModel m → PresentSymbolsStay m

module _ (law : SymbolsStay) where
  stands : (m n : Model) (u : Content) → IsStable m n u → Stands m n u
  stands m n u h = record { first = law m h.first; second = law n h.second; differ = h.differ; present = h.present }

  stands_on : (p q : Population) (u : Content) → IsStableOn p q u → StandsOn p q u
  stands_on p q u h = record { unit = stands p.model q.model u h.unit; objects = h.objects }

  pub checks_stay : ChecksStay
  checks_stay m n u h = same_check m n u (stands m n u h)

  pub bounds_stay : BoundsStay
  bounds_stay p q u h = same_bounds p q u (stands_on p q u h)

  pub admissions_stay : AdmissionsStay
  admissions_stay p q u h = same_admissions p q u (stands_on p q u h)

  pub verdicts_stay : VerdictsStay
  verdicts_stay p q u h = same_verdicts p q u (stands_on p q u h)

  pub reports_stay : ReportsStay
  reports_stay p q u h = (same_report p q u (stands_on p q u h), same_summary p q u (stands_on p q u h))
