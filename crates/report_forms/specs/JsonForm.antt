-- JSON lines, for programs: each line of a report gives an object of JSON in a line of its own, and so does that of a refusal.
-- Names of rules and classes and ids of objects have only letters, digits and `. _ : -`, and the lines of refusals only letters,
-- digits and spaces, so only messages and faults have something to escape.
use Rattle.std.specs.Prelude.{ℕ, List, [], ◌∷◌, ◌++◌, ◌==◌, length, drop, codes, if◌then◌else◌}
use Rattle.std.specs.Fmt.{decimal}
use Rattle.report_forms.specs.ReportRows.{word_at}
use Rattle.report_forms.specs.Findings.{Finding}
use Rattle.report_forms.specs.Escapes.{json_text}
use Rattle.explain_faults.specs.declared.fault.Fault.{Fault}
use Rattle.report_forms.specs.declared.faults.FaultPart.TheVariants as part
use Rattle.report_forms.specs.FaultForms.{faults_by}

-- the object's class, and where its entry begins: line and column from 1, and bytes from 0
abbrev pub json_of_entry : Finding → List ℕ
json_of_entry f =
    codes "\",\"class\":\"" ++ (f.class ++ (codes "\",\"line\":" ++ (decimal f.place.line ++ (codes ",\"column\":" ++ (decimal f.place.column
    ++ (codes ",\"offset\":" ++ decimal f.place.offset))))))

-- the object for which a rule doesn't hold, with its verdict
abbrev pub json_of_finding : Finding → List ℕ
json_of_finding f =
    codes "{\"rule\":\"" ++ (f.rule ++ (codes "\",\"object\":\"" ++ (f.object ++ (codes "\",\"verdict\":\"" ++ (f.verdict
    ++ (json_of_entry f ++ (codes ",\"message\":\"" ++ (json_text f.message ++ codes "\"}\n"))))))))

-- how many objects a rule was judged for, and how many verdicts of each kind there were, behind the rule's name
abbrev pub json_of_counts : List ℕ → List ℕ → List ℕ → List ℕ → List ℕ
json_of_counts objects holds fails undecided =
    codes "\",\"checked\":" ++ (objects ++ (codes ",\"holds\":" ++ (holds ++ (codes ",\"fails\":" ++ (fails
    ++ (codes ",\"undecided\":" ++ (undecided ++ codes "}\n")))))))

abbrev pub json_of_rule : List ℕ → List ℕ → List ℕ → List ℕ → List ℕ → List ℕ
json_of_rule name objects holds fails undecided =
    codes "{\"rule\":\"" ++ (name ++ json_of_counts objects holds fails undecided)

-- how many verdicts of all rules fail and are undecided
abbrev pub json_of_total : List ℕ → List ℕ → List ℕ
json_of_total fails undecided =
    codes "{\"total\":{\"fails\":" ++ (fails ++ (codes ",\"undecided\":" ++ (undecided ++ codes "}}\n")))

-- A line that isn't an object's: that of a rule has ten words, and the total five. What is no line gives nothing.
abbrev pub json_of_words : List (List ℕ) → List ℕ
json_of_words words =
    if length words == 10 then json_of_rule (word_at words 1) (word_at words 3) (word_at words 5) (word_at words 7) (word_at words 9)
    else (if length words == 5 then json_of_total (word_at words 2) (word_at words 4) else [])

-- What is refused, behind the line's first word, and the faults: the comma before the first is left out.
abbrev pub json_refusal : List Fault → List ℕ → List ℕ
json_refusal faults line =
    codes "{\"refused\":\"" ++ (drop 8 line ++ (codes "\",\"faults\":[" ++ (drop 1 (faults_by part.Json faults) ++ codes "]}\n")))
