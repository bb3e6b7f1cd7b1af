-- A report as a test suite in JUnit's XML: a test case for each rule, which fails where the rule has findings.
use Rattle.std.specs.Prelude.{ℕ, List, [], ◌∷◌, ◌++◌, ◌==◌, Bool, true, false, length, codes, if◌then◌else◌}
use Rattle.report_forms.specs.ReportRows.{lines_in, words_in, word_at}
use Rattle.report_forms.specs.Findings.{Context, Finding, finding_of, placed}
use Rattle.report_forms.specs.Escapes.{xml_text}
use Rattle.report_forms.specs.ExplanationLines.{is_explanation, junit_explanation}

-- the suite has the delivery's path as its name
abbrev pub junit_begin : List ℕ → List ℕ
junit_begin path =
    codes "<?xml version=\"1.0\" encoding=\"UTF-8\"?>\n<testsuites>\n<testsuite name=\"" ++ (xml_text path ++ codes "\">\n")

abbrev pub junit_end : List ℕ
junit_end = codes "</testsuite>\n</testsuites>\n"

abbrev pub junit_case : List ℕ → List ℕ
junit_case rule = codes "<testcase classname=\"ocl_check\" name=\"" ++ (rule ++ codes "\"")

-- what stands before the first finding of a rule: its case begins, and fails with the rule's message
abbrev pub junit_failure : Finding → List ℕ
junit_failure f = junit_case f.rule ++ (codes "><failure message=\"" ++ (xml_text f.message ++ codes "\">\n"))

abbrev pub junit_finding : Bool → List ℕ → Finding → List ℕ
junit_finding is_open path f = (if is_open then [] else junit_failure f) ++ xml_text (placed path f)

-- what stands at a rule's line, which comes after its findings
abbrev pub junit_rule : Bool → List ℕ → List ℕ
junit_rule is_open rule = if is_open then codes "</failure></testcase>\n" else (junit_case rule ++ codes "/>\n")

abbrev pub junit_words : Context → Bool → List (List ℕ) → List ℕ
junit_words c is_open words =
    if length words == 3 then junit_finding is_open c.path (finding_of c words)
    else (if length words == 10 then junit_rule is_open (word_at words 1) else [])

abbrev pub junit_line : Context → Bool → List ℕ → List ℕ
junit_line c is_open line = if is_explanation line then junit_explanation line else junit_words c is_open (words_in line)

-- whether a case has begun and not ended, after a line of the report
abbrev pub is_open_after_words : Bool → List (List ℕ) → Bool
is_open_after_words is_open words = if length words == 3 then true else (if length words == 10 then false else is_open)

abbrev pub is_open_after : Bool → List ℕ → Bool
is_open_after is_open line = if is_explanation line then is_open else is_open_after_words is_open (words_in line)

abbrev pub junit_lines : Context → Bool → List (List ℕ) → List ℕ
junit_lines c is_open [] = []
junit_lines c is_open (line ∷ lines) = junit_line c is_open line ++ junit_lines c (is_open_after is_open line) lines

abbrev pub junit_report : Context → List ℕ → List ℕ
junit_report c text = junit_begin c.path ++ (junit_lines c false (lines_in text) ++ junit_end)

-- a refusal is a case that couldn't be tried
abbrev pub junit_refusal : List ℕ → List ℕ → List ℕ
junit_refusal path line = junit_begin path ++ (junit_case (codes "inputs") ++ (codes "><error message=\"" ++ (line ++ (codes "\"/></testcase>\n" ++ junit_end))))
