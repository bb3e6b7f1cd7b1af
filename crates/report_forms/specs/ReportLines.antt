-- A report as a list of lines, of which its text and every other form are written.
use Rattle.std.specs.Prelude.{ℕ, zero, suc, List, [], ◌∷◌, ◌++◌, Option, Some, length, map, codes}
use Rattle.std.specs.List.{flat_map}
use Rattle.std.specs.Fmt.{decimal}
use Rattle.imkl_population.specs.Population.{Population, object_at, instances}
use Rattle.rule_code.specs.Content.{Content}
use Rattle.ocl_core.specs.Core.{CheckedRule}
use Rattle.ocl_semantics.specs.Meaning.{meant_verdict}
use Rattle.rule_values.specs.declared.verdict.Verdict.{Verdict}
use Rattle.rule_values.specs.declared.verdict.Verdict.TheVariants.{Fails, Undecided}
use Rattle.rule_report.specs.declared.summary.Summary.{Summary}
use Rattle.rule_report.specs.Report.{Verdicts, context_objects, rule_verdicts, all_verdicts, counts_of, name_of, line_of, rule_line_of, total_line}
use Rattle.ocl_check.specs.MeantReport.{meant_verdicts, meant_summary}

-- of an object by a rule, of a rule, and the last one
pub data ReportLine : Type 0 where
  OfObject : (verdict : Option Verdict) (name id : List ℕ) → ReportLine
  OfRule : (name : List ℕ) (objects : ℕ) (counts : Summary) → ReportLine
  OfAll : (counts : Summary) → ReportLine

-- what a report has of it: nothing of an object for which the rule holds
abbrev pub written_as_text : ReportLine → List ℕ
written_as_text (OfObject verdict name id) = line_of verdict name id
written_as_text (OfRule name objects counts) = rule_line_of name objects counts
written_as_text (OfAll counts) = total_line counts

-- the words of that, by which all other forms are written
abbrev pub report_row : ReportLine → List (List (List ℕ))
report_row (OfObject (Some Fails) name id) = (codes "fail" ∷ name ∷ id ∷ []) ∷ []
report_row (OfObject (Some Undecided) name id) = (codes "undecided" ∷ name ∷ id ∷ []) ∷ []
report_row (OfObject verdict name id) = []
report_row (OfRule name objects counts) =
    (codes "rule" ∷ name ∷ codes "checked" ∷ decimal objects ∷ codes "holds" ∷ decimal counts.holds ∷ codes "fails" ∷ decimal counts.fails
    ∷ codes "undecided" ∷ decimal counts.undecided ∷ []) ∷ []
report_row (OfAll counts) = (codes "total" ∷ codes "fails" ∷ decimal counts.fails ∷ codes "undecided" ∷ decimal counts.undecided ∷ []) ∷ []

-- those of all lines, and an empty one after the last line feed
abbrev pub report_rows_of : List ReportLine → List (List (List ℕ))
report_rows_of lines = flat_map report_row lines ++ ([] ∷ []) ∷ []

-- ---- by the verdicts of code

abbrev pub lines_of_rule : Content → Population → Verdicts → ℕ → List ReportLine
lines_of_rule u p v r =
    map (λ o. OfObject (v r o) (name_of u r) (object_at p o).id) (context_objects u p r)
    ++ OfRule (name_of u r) (length (context_objects u p r)) (counts_of (rule_verdicts u p v r)) ∷ []

-- those of the first n rules, and those of all
abbrev pub report_lines_below : Content → Population → Verdicts → ℕ → List ReportLine
report_lines_below u p v zero = []
report_lines_below u p v (suc r) = report_lines_below u p v r ++ lines_of_rule u p v r

abbrev pub report_lines : Content → Population → Verdicts → List ReportLine
report_lines u p v = report_lines_below u p v (length u.rules) ++ OfAll (counts_of (all_verdicts u p v)) ∷ []

-- ---- by what rules mean

abbrev pub meant_lines_of_rule : Population → CheckedRule → List ReportLine
meant_lines_of_rule p r =
    map (λ o. OfObject (Some (meant_verdict p r o)) r.name (object_at p o).id) (instances p r.context)
    ++ OfRule r.name (length (instances p r.context)) (counts_of (meant_verdicts p r)) ∷ []

abbrev pub meant_lines : Population → List CheckedRule → List ReportLine
meant_lines p rs = flat_map (meant_lines_of_rule p) rs ++ OfAll (meant_summary p rs) ∷ []
