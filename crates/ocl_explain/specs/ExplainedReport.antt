-- What `judge --why` prints, and `why` of a rule without an object: the report, and below the line of each object for which a rule doesn't hold the parts of the rule's
-- expression with their values, as `why` shows them. Of each rule the first findings are explained, as many as are asked for,
-- and of each explanation so many lines are shown. The line of a refusal stays as it is.
use Rattle.std.specs.Prelude.{◌≡◌, ◌==◌, ◌-◌, ◌⊎◌, ◌&&◌, ℕ, zero, suc, Bool, true, not, List, [], ◌∷◌, ◌++◌, Option, Some, None, is_some, length, bytes_eq, codes, if◌then◌else◌}
use Rattle.imkl_population.specs.Population.{Population}
use Rattle.ocl_core.specs.Core.{CheckedRule}
use Rattle.rule_code.specs.Content.{Content}
use Rattle.ocl_pipeline.specs.TextReading.{TextReading, ReadsAs}
use Rattle.ocl_check.specs.Reply.{Answer}
use Rattle.ocl_check.specs.JudgeText.{meant_answer}
use Rattle.report_forms.specs.ReportRows.{lines_in, words_in, word_at, ended_line}
use Rattle.explain_notes.specs.Lines.{cut_text}
use Rattle.ocl_explain.specs.declared.weaving.Shown.{Shown}
use Rattle.ocl_explain.specs.RuleNames.{RuleNames, names_by}
use Rattle.ocl_explain.specs.Judged.{AreJudged, IsRefusedBy}
use Rattle.ocl_explain.specs.WhyAnswers.{rule_named, why_text}
use Rattle.ocl_explain.specs.CodeWhy.{rule_number, code_why_text}

-- ---- lines

-- what comes after the first line
abbrev pub after_line : List ℕ → List ℕ
after_line [] = []
after_line (b ∷ bs) = if b == 10 then bs else after_line bs

-- of an explanation so many lines, without its first: the report has the verdict
abbrev pub parts_shown : ℕ → Option (List ℕ) → List ℕ
parts_shown lines None = []
parts_shown lines (Some text) = cut_text lines (after_line text)

-- ---- a report

-- how many findings of the rule may be explained after a line: the line of a finding has three words, and that of the rule
-- comes after those of its objects
abbrev pub left_after : ℕ → ℕ → List ℕ → ℕ
left_after findings left line = if length (words_in line) == 3 then left - 1 else findings

-- the lines that are wanted: all, or of one rule those of its objects and its own, in which its name is the second word
abbrev pub is_line_wanted : Option (List ℕ) → List (List ℕ) → Bool
is_line_wanted None words = true
is_line_wanted (Some name) words = not (bytes_eq (word_at words 0) (codes "total")) && bytes_eq (word_at words 1) name

-- what explains findings: which rules there are, by their names, and why one has its verdict for an object, by its id
pub record Explainer : Type 0 where
  pub has_rule : List ℕ → Bool
  pub why : List ℕ → List ℕ → Option (List ℕ)

module _ (e : Explainer) (shown : Shown) where
  -- below the line of a finding, if it may be explained
  abbrev pub below_finding : ℕ → List (List ℕ) → List ℕ
  below_finding zero words = []
  below_finding (suc left) words = parts_shown shown.lines (e.why (word_at words 1) (word_at words 2))

  abbrev pub explained_line : Option (List ℕ) → ℕ → List ℕ → List ℕ
  explained_line rule left line =
      if is_line_wanted rule (words_in line) then ended_line line ++ (if length (words_in line) == 3 then below_finding left (words_in line) else []) else []

  abbrev pub explained_lines : Option (List ℕ) → ℕ → List (List ℕ) → List ℕ
  explained_lines rule left [] = []
  explained_lines rule left (line ∷ lines) = explained_line rule left line ++ explained_lines rule (left_after shown.findings left line) lines

  abbrev pub explained_report : Option (List ℕ) → List ℕ → List ℕ
  explained_report rule text = explained_lines rule shown.findings (lines_in text)

  -- a report with its status, or what it has of the rule of a name, with status 0; nothing, with status 2, where there is no
  -- such rule
  abbrev pub reported : Option (List ℕ) → Answer → Answer
  reported None a = (explained_report None a.0, a.1)
  reported (Some name) a = if e.has_rule name then (explained_report (Some name) a.0, 0) else ([], 2)

  -- a refusal, whose status is 2, stays as it is
  abbrev pub explained_answer : Option (List ℕ) → Answer → Answer
  explained_answer rule a = if a.1 == 2 then a else reported rule a

-- ---- rules

-- typed rules of a text, with names of their variables
abbrev pub rules_explainer : Population → List RuleNames → List CheckedRule → Explainer
rules_explainer p names rs = record { has_rule = λ name. is_some (rule_named rs name); why = why_text p names rs }

-- the rules of a code file
abbrev pub code_explainer : Population → Content → Explainer
code_explainer p u = record { has_rule = λ name. is_some (rule_number u name); why = code_why_text p u }

-- ---- inputs

-- the report that the rules mean, or what it has of the rule of a name, with explanations below its findings, which have the names
-- that the text gives to variables; or the line by which `judge` refuses an input
abbrev pub ExplainedAnswers : ℕ → Shown → Option (List ℕ) → List ℕ → List ℕ → List ℕ → Answer → Type 0
ExplainedAnswers budget shown rule model delivery rules answer =
    ((p : Population) × (rs : List CheckedRule) × (t : TextReading) × ReadsAs rules t × AreJudged budget model delivery rules p rs × (answer ≡ explained_answer (rules_explainer p (names_by t rs) rs) shown rule (meant_answer p rs)))
    ⊎ IsRefusedBy budget model delivery rules answer
