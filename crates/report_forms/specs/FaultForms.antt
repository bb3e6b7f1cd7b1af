-- The faults of a refused input, in the forms that list them: where each is, if it has a place, and what is wrong. It is wrong
-- with the input as a whole where it has none.
use Rattle.std.specs.Prelude.{ℕ, String, List, [], ◌++◌, Option, Some, None, codes, string_bytes}
use Rattle.std.specs.declared.alloc.Global.{Global}
use Rattle.std.specs.List.{flat_map}
use Rattle.std.specs.Fmt.{decimal}
use Rattle.explain_faults.specs.declared.fault.Fault.{Fault}
use Rattle.explain_faults.specs.declared.fault.FaultPlace.{FaultPlace}
use Rattle.report_forms.specs.declared.faults.FaultPart.{FaultPart}
use Rattle.report_forms.specs.declared.faults.FaultPart.TheVariants as part
use Rattle.report_forms.specs.Escapes.{json_text, xml_text, message_text, property_text, uri_text}

-- ---- JSON

-- line and column from 1, and bytes from 0
abbrev pub json_fault_place : Option FaultPlace → List ℕ
json_fault_place None = []
json_fault_place (Some at) =
    codes ",\"line\":" ++ (decimal at.line ++ (codes ",\"column\":" ++ (decimal at.column ++ (codes ",\"offset\":" ++ decimal at.offset))))

-- to the value that begins there, in a document of JSON
abbrev pub json_pointer : Option (String Global) → List ℕ
json_pointer None = []
json_pointer (Some pointer) = codes ",\"pointer\":\"" ++ (json_text (string_bytes pointer) ++ codes "\"")

-- behind a comma
abbrev pub json_fault : Fault → List ℕ
json_fault f =
    codes ",{\"path\":\"" ++ (json_text (string_bytes f.path) ++ (codes "\"" ++ (json_fault_place f.place ++ (json_pointer f.pointer
    ++ (codes ",\"text\":\"" ++ (json_text (string_bytes f.text) ++ codes "\"}"))))))

-- ---- annotations of GitHub Actions

abbrev pub github_fault_place : Option FaultPlace → List ℕ
github_fault_place None = []
github_fault_place (Some at) = codes ",line=" ++ (decimal at.line ++ (codes ",col=" ++ decimal at.column))

abbrev pub github_fault : Fault → List ℕ
github_fault f =
    codes "::error file=" ++ (property_text (string_bytes f.path) ++ (github_fault_place f.place ++ (codes ",title=refused::"
    ++ (message_text (string_bytes f.text) ++ codes "\n"))))

-- ---- SARIF

abbrev pub sarif_region : Option FaultPlace → List ℕ
sarif_region None = []
sarif_region (Some at) =
    codes ",\"region\":{\"startLine\":" ++ (decimal at.line ++ (codes ",\"startColumn\":" ++ (decimal at.column ++ codes "}")))

-- a result behind a comma
abbrev pub sarif_fault : Fault → List ℕ
sarif_fault f =
    codes ",{\"ruleId\":\"refused\",\"level\":\"error\",\"message\":{\"text\":\"" ++ (json_text (string_bytes f.text)
    ++ (codes "\"},\"locations\":[{\"physicalLocation\":{\"artifactLocation\":{\"uri\":\"" ++ (uri_text (string_bytes f.path)
    ++ (codes "\"}" ++ (sarif_region f.place ++ codes "}}]}")))))

-- ---- pages

abbrev pub html_fault_place : Option FaultPlace → List ℕ
html_fault_place None = []
html_fault_place (Some at) = codes ":" ++ (decimal at.line ++ (codes ":" ++ decimal at.column))

-- a row of the findings, which has no rule, object and class
abbrev pub html_fault : Fault → List ℕ
html_fault f =
    codes "<tr><td class=\"fails\">refused<td><td><td><td>" ++ (xml_text (string_bytes f.path) ++ (html_fault_place f.place
    ++ (codes "<td>" ++ (xml_text (string_bytes f.text) ++ codes "\n"))))

-- ---- all

abbrev pub fault_by : FaultPart → Fault → List ℕ
fault_by part.Json f = json_fault f
fault_by part.Github f = github_fault f
fault_by part.Sarif f = sarif_fault f
fault_by part.Html f = html_fault f

abbrev pub faults_by : FaultPart → List Fault → List ℕ
faults_by part fs = flat_map (fault_by part) fs
