-- What may be said of a delivery, by what the lines of its report count as.
use Rattle.std.specs.Prelude.{ℕ, ◌==◌, ◌&&◌, nat_le, Bool, true, not, List, [], Option, Some, None}
use Rattle.report_summary.specs.declared.tally.LineCounts.{LineCounts}
use Rattle.report_summary.specs.declared.delivery.Known.{Known}
use Rattle.report_summary.specs.declared.delivery.Known.TheVariants.{Holds, Findings}

-- only lines of a report, with one total; the empty one is behind the last line feed
abbrev pub has_whole_counts : LineCounts → Bool
has_whole_counts c = c.others == 0 && (nat_le c.empty 1 && c.totals == 1)

-- no line of an object for which a rule fails or is undecided
abbrev pub has_no_findings : LineCounts → Bool
has_no_findings c = c.fails == 0 && c.undecided == 0

-- that all rules hold is said only without a finding, and that some don't only with one; without a whole report neither is said
abbrev pub may_be_said : LineCounts → Known → Bool
may_be_said c (Holds tally) = has_whole_counts c && has_no_findings c
may_be_said c (Findings tally) = has_whole_counts c && not (has_no_findings c)
may_be_said c known = true

-- a report that isn't there has no bytes
abbrev pub report_bytes : Option (List ℕ) → List ℕ
report_bytes (Some bytes) = bytes
report_bytes None = []
