-- SARIF 2.1.0: a report is one run, with a rule for each rule and a result for each finding, which is an error where the rule
-- fails and a warning where it is undecided.
use Rattle.std.specs.Prelude.{ℕ, List, [], ◌∷◌, ◌++◌, ◌==◌, length, drop, codes, if◌then◌else◌}
use Rattle.std.specs.Fmt.{decimal}
use Rattle.report_forms.specs.ReportRows.{word_at}
use Rattle.report_forms.specs.Findings.{Context, Finding, message_in, described}
use Rattle.report_forms.specs.Escapes.{json_text, uri_text}
use Rattle.report_forms.specs.GithubForm.{annotation_level}
use Rattle.explain_faults.specs.declared.fault.Fault.{Fault}
use Rattle.report_forms.specs.declared.faults.FaultPart.TheVariants as part
use Rattle.report_forms.specs.FaultForms.{faults_by}

-- columns count characters
abbrev pub sarif_begin : List ℕ
sarif_begin =
    codes "{\"$schema\":\"https://json.schemastore.org/sarif-2.1.0.json\",\"version\":\"2.1.0\",\"runs\":[{\"columnKind\":\"unicodeCodePoints\",\"tool\":{\"driver\":{\"name\":\"ocl_check\",\"rules\":["

abbrev pub sarif_description : List ℕ → List ℕ
sarif_description message = codes ",\"shortDescription\":{\"text\":\"" ++ (json_text message ++ codes "\"}")

-- the message of a rule, if it has one
abbrev pub sarif_message : List ℕ → List ℕ
sarif_message [] = []
sarif_message (b ∷ bs) = sarif_description (b ∷ bs)

abbrev pub sarif_rule : Context → List ℕ → List ℕ
sarif_rule c name = codes ",{\"id\":\"" ++ (name ++ (codes "\"" ++ (sarif_message (message_in c.messages name) ++ codes "}")))

-- where an object's entry begins
abbrev pub sarif_location : List ℕ → Finding → List ℕ
sarif_location path f =
    codes "{\"physicalLocation\":{\"artifactLocation\":{\"uri\":\"" ++ (uri_text path ++ (codes "\"},\"region\":{\"startLine\":" ++ (decimal f.place.line
    ++ (codes ",\"startColumn\":" ++ (decimal f.place.column ++ codes "}}}")))))

abbrev pub sarif_result : List ℕ → Finding → List ℕ
sarif_result path f =
    codes ",{\"ruleId\":\"" ++ (f.rule ++ (codes "\",\"level\":\"" ++ (annotation_level f.verdict ++ (codes "\",\"message\":{\"text\":\"" ++ (json_text (described f)
    ++ (codes "\"},\"locations\":[" ++ (sarif_location path f ++ codes "]}")))))))

-- what the line of a rule gives, of ten words
abbrev pub sarif_rule_of : Context → List (List ℕ) → List ℕ
sarif_rule_of c words = if length words == 10 then sarif_rule c (word_at words 1) else []

-- the run, of its rules and its results, each behind a comma: the comma before the first is left out
abbrev pub sarif_run : List ℕ → List ℕ → List ℕ
sarif_run rules results = sarif_begin ++ (drop 1 rules ++ (codes "]}},\"results\":[" ++ (drop 1 results ++ codes "]}]}\n")))

-- a refusal is a run that didn't succeed, with a result for each of its faults
abbrev pub sarif_refusal : List Fault → List ℕ → List ℕ
sarif_refusal faults line =
    sarif_begin ++ (codes "]}},\"results\":[" ++ (drop 1 (faults_by part.Sarif faults)
    ++ (codes "],\"invocations\":[{\"executionSuccessful\":false,\"toolExecutionNotifications\":[{\"level\":\"error\",\"message\":{\"text\":\""
    ++ (line ++ codes "\"}}]}]}]}\n"))))
