-- Reports of code whose symbols are present names are the same, whatever old names there are.
use Rattle.std.proofs.Common.{◌≡◌, ℕ, zero, suc, ◌<◌, ◌≤◌, List, ◌++◌, All, length, map, flat_map, refl, arith}
use Rattle.imkl_population.specs.declared.object.Object.{Object}
use Rattle.imkl_population.specs.Population.{Population}
use Rattle.rule_verify.specs.Symbols.{class_in}
use Rattle.rule_verify.specs.UnitRules.{empty_rule}
use Rattle.rule_machine.specs.Laws.{verdict_at}
use Rattle.rule_report.specs.Report.{instances_of, context_objects, verdicts_below, counts_of, name_of, object_line, rule_line_of, total_line, reports_below, report_of, summary_of}
use Rattle.old_name_laws.proofs.Symbols.{Case, in_one, in_other, RuleAgrees}
use Rattle.old_name_laws.proofs.Runs.{verdict_alike}

module _ (x : Case) (h : All (RuleAgrees x) x.unit.rules) (objects : List Object) where
  abbrev one : Population
  one = in_one x objects

  abbrev two : Population
  two = in_other x objects

  -- some of the unit's rules, from the first on
  abbrev pub AreRules : ℕ → Type 0
  AreRules n = n ≤ length x.unit.rules

  -- a rule is judged for the same objects
  pub contexts_alike : (r : ℕ) → r < length x.unit.rules → context_objects x.unit two r ≡ context_objects x.unit one r
  contexts_alike r lt = λ j. instances_of one (class_in ((h r empty_rule lt).context j))

  -- with the same verdicts
  pub all_verdicts_alike : verdict_at x.unit two ≡ verdict_at x.unit one
  all_verdicts_alike = λ j r o. verdict_alike x h objects r o j

  -- ---- the report

  -- also of the first rules together
  pub told_alike : (n : ℕ) → AreRules n → verdicts_below x.unit two (verdict_at x.unit two) n ≡ verdicts_below x.unit one (verdict_at x.unit one) n
  told_alike zero le = refl
  told_alike (suc r) le = λ j. told_alike r (omega arith) j ++ map (all_verdicts_alike j r) (contexts_alike r (omega arith) j)

  lines_below_alike : (n : ℕ) → AreRules n → reports_below x.unit two (verdict_at x.unit two) n ≡ reports_below x.unit one (verdict_at x.unit one) n
  lines_below_alike zero le = refl
  lines_below_alike (suc r) le =
      let objects_alike : context_objects x.unit two r ≡ context_objects x.unit one r = contexts_alike r (omega arith) in
      let before : reports_below x.unit two (verdict_at x.unit two) r ≡ reports_below x.unit one (verdict_at x.unit one) r = lines_below_alike r (omega arith) in
      λ j. before j ++ (flat_map (object_line x.unit one (all_verdicts_alike j) r) (objects_alike j)
      ++ rule_line_of (name_of x.unit r) (length (objects_alike j)) (counts_of (map (all_verdicts_alike j r) (objects_alike j))))

  -- the report has the same bytes
  pub report_alike : report_of x.unit two ≡ report_of x.unit one
  report_alike =
      let lines : reports_below x.unit two (verdict_at x.unit two) (length x.unit.rules) ≡ reports_below x.unit one (verdict_at x.unit one) (length x.unit.rules) = lines_below_alike (length x.unit.rules) (omega arith) in
      let told : verdicts_below x.unit two (verdict_at x.unit two) (length x.unit.rules) ≡ verdicts_below x.unit one (verdict_at x.unit one) (length x.unit.rules) = told_alike (length x.unit.rules) (omega arith) in
      λ j. lines j ++ total_line (counts_of (told j))

  -- and the same counts
  pub summary_alike : summary_of x.unit two ≡ summary_of x.unit one
  summary_alike = λ j. counts_of (told_alike (length x.unit.rules) (omega arith) j)
