-- Lines of explanations, below the finding that they explain.
use Rattle.std.specs.Prelude.{ℕ, Bool, false, List, [], ◌∷◌, ◌++◌, ◌==◌, ◌||◌, codes}
use Rattle.report_forms.specs.declared.lines.Part.{Part}
use Rattle.report_forms.specs.declared.lines.Part.TheVariants as part
use Rattle.report_forms.specs.ReportRows.{ended_line}
use Rattle.report_forms.specs.Escapes.{json_text, xml_text}

-- it begins with a space, or says how many more there are (`and 2 more lines`): no line of a report begins so
abbrev pub is_explanation : List ℕ → Bool
is_explanation [] = false
is_explanation (b ∷ bs) = b == 32 || b == 97

-- an object of its own, behind that of the finding
abbrev pub json_explanation : List ℕ → List ℕ
json_explanation line = codes "{\"why\":\"" ++ (json_text line ++ codes "\"}\n")

-- in the cell of the finding's message
abbrev pub html_explanation : List ℕ → List ℕ
html_explanation line = codes "<code>" ++ (xml_text line ++ codes "</code>\n")

-- in the failure of the rule's test case
abbrev pub junit_explanation : List ℕ → List ℕ
junit_explanation line = xml_text line ++ codes "\n"

-- annotations and SARIF have none
abbrev pub explanation_by : Part → List ℕ → List ℕ
explanation_by part.Text line = ended_line line
explanation_by part.Json line = json_explanation line
explanation_by part.Github line = []
explanation_by part.SarifRules line = []
explanation_by part.SarifResults line = []
explanation_by part.HtmlRules line = []
explanation_by part.HtmlFindings line = html_explanation line
