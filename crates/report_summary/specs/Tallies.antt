-- What is counted of a report, line by line.
use Rattle.std.specs.Prelude.{ℕ, ◌+◌, Bool, true, false, ◌==◌, List, length, map, filter}
use Rattle.std.specs.List.{slice_split}
use Rattle.report_summary.specs.declared.kinds.LineKind.{LineKind}
use Rattle.report_summary.specs.declared.kinds.LineKind.TheVariants.{Fail, Undecided, Rule, Total, Empty, Other}
use Rattle.report_summary.specs.declared.tally.LineCounts.{LineCounts}
use Rattle.report_summary.specs.Kinds.{kind_by}

-- the lines of a text, and behind the last line feed an empty one
abbrev pub text_lines : List ℕ → List (List ℕ)
text_lines text = slice_split (λ b. b == 10) text

-- the words of a line, between its spaces
abbrev pub words_of : List ℕ → List (List ℕ)
words_of line = slice_split (λ b. b == 32) line

abbrev pub line_kind : List ℕ → LineKind
line_kind line = kind_by (words_of line)

abbrev pub is_kind : LineKind → LineKind → Bool
is_kind Fail Fail = true
is_kind Undecided Undecided = true
is_kind Rule Rule = true
is_kind Total Total = true
is_kind Empty Empty = true
is_kind Other Other = true
is_kind wanted kind = false

-- how many lines are of a kind
abbrev pub lines_of_kind : LineKind → List LineKind → ℕ
lines_of_kind wanted kinds = length (filter (is_kind wanted) kinds)

abbrev pub counts_of_kinds : List LineKind → LineCounts
counts_of_kinds kinds = record {
  fails = lines_of_kind Fail kinds;
  undecided = lines_of_kind Undecided kinds;
  rules = lines_of_kind Rule kinds;
  totals = lines_of_kind Total kinds;
  empty = lines_of_kind Empty kinds;
  others = lines_of_kind Other kinds;
}

-- what the lines of a text count as
abbrev pub counts_in : List ℕ → LineCounts
counts_in text = counts_of_kinds (map line_kind (text_lines text))

-- each is counted once
abbrev pub all_lines_counted : LineCounts → ℕ
all_lines_counted c = c.fails + (c.undecided + (c.rules + (c.totals + (c.empty + c.others))))
