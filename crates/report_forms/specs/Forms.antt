-- An answer of `judge` in a form: the report, or the line of a refusal.
use Rattle.std.specs.Prelude.{◌==◌, ℕ, List, ◌++◌, codes, if◌then◌else◌}
use Rattle.ocl_check.specs.Reply.{Answer}
use Rattle.explain_faults.specs.declared.fault.Fault.{Fault}
use Rattle.report_forms.specs.declared.form.Form.{Form}
use Rattle.report_forms.specs.declared.form.Form.TheVariants as form
use Rattle.report_forms.specs.declared.lines.Part.TheVariants as part
use Rattle.report_forms.specs.ReportRows.{lines_in, word_at}
use Rattle.report_forms.specs.Findings.{Context}
use Rattle.report_forms.specs.Lines.{lines_by}
use Rattle.report_forms.specs.JsonForm.{json_refusal}
use Rattle.report_forms.specs.GithubForm.{github_refusal}
use Rattle.report_forms.specs.JunitForm.{junit_report, junit_refusal}
use Rattle.report_forms.specs.SarifForm.{sarif_run, sarif_refusal}
use Rattle.report_forms.specs.HtmlForm.{html_page, html_refusal}

abbrev pub form_of_report : Form → Context → List ℕ → List ℕ
form_of_report form.Text c text = lines_by part.Text c text
form_of_report form.Json c text = lines_by part.Json c text
form_of_report form.Github c text = lines_by part.Github c text
form_of_report form.Junit c text = junit_report c text
form_of_report form.Sarif c text = sarif_run (lines_by part.SarifRules c text) (lines_by part.SarifResults c text)
form_of_report form.Html c text = html_page c.path (lines_by part.HtmlRules c text) (lines_by part.HtmlFindings c text)

-- of the first line, which is the only one, with the faults of what is refused
abbrev pub form_of_line : Form → List ℕ → List Fault → List ℕ → List ℕ
form_of_line form.Text path faults line = line ++ codes "\n"
form_of_line form.Json path faults line = json_refusal faults line
form_of_line form.Github path faults line = github_refusal faults line
form_of_line form.Junit path faults line = junit_refusal path line
form_of_line form.Sarif path faults line = sarif_refusal faults line
form_of_line form.Html path faults line = html_refusal path faults line

abbrev pub form_of_refusal : Form → List ℕ → List Fault → List ℕ → List ℕ
form_of_refusal form path faults text = form_of_line form path faults (word_at (lines_in text) 0)

-- a refusal has status 2; the status stays
abbrev pub form_of_answer : Form → Context → List Fault → Answer → Answer
form_of_answer form c faults a = (if a.1 == 2 then form_of_refusal form c.path faults a.0 else form_of_report form c a.0, a.1)
