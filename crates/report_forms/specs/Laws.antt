-- A report and its other forms say the same: all are written of one list of lines.
use Rattle.std.specs.Prelude.{◌≡◌, true, List}
use Rattle.std.specs.List.{AllByRecursion, flat_map}
use Rattle.ocl_base.specs.Words.{is_name}
use Rattle.imkl_population.specs.Population.{Population}
use Rattle.imkl_population.specs.Consistency.{IsConsistent}
use Rattle.rule_code.specs.Content.{Content}
use Rattle.rule_code.specs.WellFormed.{IsUnit}
use Rattle.ocl_core.specs.Core.{CheckedRule}
use Rattle.rule_report.specs.Report.{Verdicts, report_by}
use Rattle.ocl_check.specs.MeantReport.{meant_report}
use Rattle.report_forms.specs.ReportRows.{rows_in}
use Rattle.report_forms.specs.ReportLines.{written_as_text, report_rows_of, report_lines, meant_lines}

-- the report by some verdicts
abbrev pub ReportIsOfItsLines : Type 0
ReportIsOfItsLines = (u : Content) (p : Population) (v : Verdicts) → report_by u p v ≡ flat_map written_as_text (report_lines u p v)

-- its rows, of which the other forms are written: names of rules and ids of objects have no space and no line feed
abbrev pub RowsAreOfTheSameLines : Type 0
RowsAreOfTheSameLines =
    (u : Content) (p : Population) (v : Verdicts) → IsUnit u → IsConsistent p
    → rows_in (report_by u p v) ≡ report_rows_of (report_lines u p v)

-- the report that rules mean
abbrev pub MeantReportIsOfItsLines : Type 0
MeantReportIsOfItsLines = (p : Population) (rs : List CheckedRule) → meant_report p rs ≡ flat_map written_as_text (meant_lines p rs)

-- its rows
abbrev pub MeantRowsAreOfTheSameLines : Type 0
MeantRowsAreOfTheSameLines =
    (p : Population) (rs : List CheckedRule) → IsConsistent p → AllByRecursion (λ r. is_name r.name ≡ true) rs
    → rows_in (meant_report p rs) ≡ report_rows_of (meant_lines p rs)
