-- A page of HTML: a table of the rules, a table of the findings, and a script that hides those that aren't asked for.
use Rattle.std.specs.Prelude.{ℕ, List, [], ◌∷◌, ◌++◌, ◌==◌, length, codes, if◌then◌else◌}
use Rattle.std.specs.Fmt.{decimal}
use Rattle.report_forms.specs.declared.html.TheConstants.{BEGIN, HEADING, RULES, FINDINGS, END}
use Rattle.report_forms.specs.ReportRows.{word_at}
use Rattle.report_forms.specs.Findings.{Context, Finding, message_in}
use Rattle.report_forms.specs.Escapes.{xml_text}
use Rattle.explain_faults.specs.declared.fault.Fault.{Fault}
use Rattle.report_forms.specs.declared.faults.FaultPart.TheVariants as part
use Rattle.report_forms.specs.FaultForms.{faults_by}

-- the path of the delivery is the title, and stands in the heading
abbrev pub html_begin : List ℕ → List ℕ
html_begin path = BEGIN.now ++ (xml_text path ++ (HEADING.now ++ (xml_text path ++ RULES.now)))

-- ---- rules

abbrev pub html_cell : List ℕ → List ℕ
html_cell number = codes "<td class=\"number\">" ++ number

-- a part of a bar, as wide as a number says
abbrev pub html_share : List ℕ → List ℕ → List ℕ
html_share name number = codes "<i class=\"" ++ (name ++ (codes "\" style=\"flex-grow:" ++ (number ++ codes "\"></i>")))

abbrev pub html_bar : List ℕ → List ℕ → List ℕ → List ℕ
html_bar holds fails undecided =
    codes "<td><div class=\"bar\">" ++ (html_share (codes "holds") holds ++ (html_share (codes "fails") fails ++ (html_share (codes "undecided") undecided ++ codes "</div>")))

abbrev pub html_numbers : List ℕ → List ℕ → List ℕ → List ℕ → List ℕ
html_numbers objects holds fails undecided = html_cell objects ++ (html_cell holds ++ (html_cell fails ++ html_cell undecided))

abbrev pub html_names : List ℕ → List ℕ → List ℕ
html_names name message = codes "<tr><td>" ++ (name ++ (codes "<td>" ++ xml_text message))

-- a rule with its message, its counts, and a bar of them
abbrev pub html_rule : List ℕ → List ℕ → List ℕ → List ℕ → List ℕ → List ℕ → List ℕ
html_rule name message objects holds fails undecided =
    html_names name message ++ (html_numbers objects holds fails undecided ++ (html_bar holds fails undecided ++ codes "\n"))

abbrev pub html_total : List ℕ → List ℕ → List ℕ
html_total fails undecided = codes "<tr class=\"total\"><td>total<td><td><td>" ++ (html_cell fails ++ (html_cell undecided ++ codes "<td>\n"))

-- a line that isn't an object's: that of a rule has ten words, and the total five
abbrev pub html_of_words : Context → List (List ℕ) → List ℕ
html_of_words c words =
    if length words == 10
    then html_rule (word_at words 1) (message_in c.messages (word_at words 1)) (word_at words 3) (word_at words 5) (word_at words 7) (word_at words 9)
    else (if length words == 5 then html_total (word_at words 2) (word_at words 4) else [])

-- ---- findings

abbrev pub html_verdict : List ℕ → List ℕ
html_verdict verdict = codes "<tr><td class=\"" ++ (verdict ++ (codes "\">" ++ verdict))

abbrev pub html_names_of : Finding → List ℕ
html_names_of f = codes "<td>" ++ (f.rule ++ (codes "<td>" ++ (f.object ++ (codes "<td>" ++ f.class))))

abbrev pub html_place : Finding → List ℕ
html_place f = codes "<td>" ++ (decimal f.place.line ++ (codes ":" ++ decimal f.place.column))

abbrev pub html_finding : Finding → List ℕ
html_finding f = html_verdict f.verdict ++ (html_names_of f ++ (html_place f ++ (codes "<td>" ++ (xml_text f.message ++ codes "\n"))))

-- ---- pages

abbrev pub html_page : List ℕ → List ℕ → List ℕ → List ℕ
html_page path rules findings = html_begin path ++ (rules ++ (FINDINGS.now ++ (findings ++ END.now)))

-- a refusal stands in the place of the rules, and its faults in that of the findings
abbrev pub html_refusal : List ℕ → List Fault → List ℕ → List ℕ
html_refusal path faults line =
    html_begin path ++ (codes "<tr class=\"total\"><td>" ++ (line ++ (codes "\n" ++ (FINDINGS.now ++ (faults_by part.Html faults ++ END.now)))))
