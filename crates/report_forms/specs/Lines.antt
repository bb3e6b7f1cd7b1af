-- What each line of a report gives by itself: a finding where it has three words, as the line of an object has. A line of an
-- explanation is none of the report's.
use Rattle.std.specs.Prelude.{ℕ, List, [], ◌==◌, length, if◌then◌else◌}
use Rattle.std.specs.List.{flat_map}
use Rattle.report_forms.specs.declared.lines.Part.{Part}
use Rattle.report_forms.specs.declared.lines.Part.TheVariants as part
use Rattle.report_forms.specs.ReportRows.{lines_in, words_in, ended_line}
use Rattle.report_forms.specs.Findings.{Context, Finding, finding_of, placed}
use Rattle.report_forms.specs.JsonForm.{json_of_finding, json_of_words}
use Rattle.report_forms.specs.GithubForm.{github_finding}
use Rattle.report_forms.specs.SarifForm.{sarif_result, sarif_rule_of}
use Rattle.report_forms.specs.HtmlForm.{html_finding, html_of_words}
use Rattle.report_forms.specs.ExplanationLines.{is_explanation, explanation_by}

abbrev pub finding_by : Part → Context → Finding → List ℕ
finding_by part.Text c f = placed c.path f
finding_by part.Json c f = json_of_finding f
finding_by part.Github c f = github_finding c.path f
finding_by part.SarifRules c f = []
finding_by part.SarifResults c f = sarif_result c.path f
finding_by part.HtmlRules c f = []
finding_by part.HtmlFindings c f = html_finding f

-- any other line: as text, and among annotations, it stays as it is
abbrev pub other_by : Part → Context → List ℕ → List ℕ
other_by part.Text c line = ended_line line
other_by part.Json c line = json_of_words (words_in line)
other_by part.Github c line = ended_line line
other_by part.SarifRules c line = sarif_rule_of c (words_in line)
other_by part.SarifResults c line = []
other_by part.HtmlRules c line = html_of_words c (words_in line)
other_by part.HtmlFindings c line = []

abbrev pub report_line_by : Part → Context → List ℕ → List ℕ
report_line_by part c line = if length (words_in line) == 3 then finding_by part c (finding_of c (words_in line)) else other_by part c line

abbrev pub line_by : Part → Context → List ℕ → List ℕ
line_by part c line = if is_explanation line then explanation_by part line else report_line_by part c line

-- all lines, one by one
abbrev pub lines_by : Part → Context → List ℕ → List ℕ
lines_by part c text = flat_map (line_by part c) (lines_in text)
