-- Annotations of GitHub Actions: a finding is an error where the rule fails, and a warning where it is undecided.
use Rattle.std.specs.Prelude.{ℕ, List, ◌++◌, bytes_eq, codes, if◌then◌else◌}
use Rattle.std.specs.Fmt.{decimal}
use Rattle.report_forms.specs.Findings.{Finding, described}
use Rattle.report_forms.specs.Escapes.{message_text, property_text}
use Rattle.explain_faults.specs.declared.fault.Fault.{Fault}
use Rattle.report_forms.specs.declared.faults.FaultPart.TheVariants as part
use Rattle.report_forms.specs.FaultForms.{faults_by}

-- how bad a verdict is
abbrev pub annotation_level : List ℕ → List ℕ
annotation_level verdict = if bytes_eq verdict (codes "fails") then codes "error" else codes "warning"

-- the file, the place, and the rule as title
abbrev pub github_properties : List ℕ → Finding → List ℕ
github_properties path f =
    codes " file=" ++ (property_text path ++ (codes ",line=" ++ (decimal f.place.line ++ (codes ",col=" ++ (decimal f.place.column
    ++ (codes ",title=" ++ f.rule))))))

abbrev pub github_finding : List ℕ → Finding → List ℕ
github_finding path f =
    codes "::" ++ (annotation_level f.verdict ++ (github_properties path f ++ (codes "::" ++ (message_text (described f) ++ codes "\n"))))

-- a refusal is an error without a place, and so is each of its faults, with its place
abbrev pub github_refusal : List Fault → List ℕ → List ℕ
github_refusal faults line = codes "::error title=refused::" ++ (line ++ (codes "\n" ++ faults_by part.Github faults))
