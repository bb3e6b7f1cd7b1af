-- A report told pair by pair. A pair is a rule and an object of its context class. A cursor stands before the line of a
-- pair, the one that is due, or at the end of the report.
use Rattle.std.specs.Prelude.{◌≡◌, ℕ, zero, suc, ◌+◌, ◌-◌, ◌*◌, ◌<◌, ◌≤◌, ◌==◌, List, [], ◌++◌, Option, Some, None, length, map, take, max, nat_lt, slice_get, slice_index_or, if◌then◌else◌}
use Rattle.std.specs.List.{concat}
use Rattle.imkl_population.specs.Population.{Population, object_at}
use Rattle.imkl_population.specs.declared.limits.TheConstants.{MAX_OBJECTS}
use Rattle.rule_code.specs.Content.{Content}
use Rattle.rule_values.specs.declared.verdict.Verdict.{Verdict}
use Rattle.rule_values.specs.declared.verdict.Verdict.TheVariants.{Holds, Fails, Undecided}
use Rattle.rule_report.specs.declared.summary.Summary.{Summary}
use Rattle.rule_report.specs.Report.{Verdicts, context_objects, verdicts_below, counts_of, name_of, line_of, rule_line_of, total_line, report_parts}
use Rattle.rule_report.specs.Counting.{all_counted, counted, counts_joined}

-- ---- pairs, and the report cut before the line of one

-- the pairs of the first n rules, in the order of the report, and those of all
abbrev pub pairs_of_rules : Content → Population → ℕ → List (ℕ × ℕ)
pairs_of_rules u p zero = []
pairs_of_rules u p (suc r) = pairs_of_rules u p r ++ map (λ o. (r, o)) (context_objects u p r)

abbrev pub all_pairs : Content → Population → List (ℕ × ℕ)
all_pairs u p = pairs_of_rules u p (length u.rules)

-- the part that the line of the pair before begins; the first part stands before every line of a pair
abbrev pub part_of : Content → Population → Verdicts → ℕ → List ℕ
part_of u p v n = slice_index_or (report_parts u p v) n []

-- the report up to the line of the pair n, or all of it where there is no such pair
abbrev pub report_until : Content → Population → Verdicts → ℕ → List ℕ
report_until u p v n = concat (take (suc n) (report_parts u p v))

-- ---- where a cursor stands

-- the rule and the place among its context objects of the pair that is due; the counts of the verdicts told of that rule,
-- and of the rules before it
pub record CursorSeen : Type 0 where
  pub unit : Content
  pub population : Population
  pub rule : ℕ
  pub at : ℕ
  pub here : Summary
  pub before : Summary

abbrev pub cursor_seen : Content → Population → ℕ → ℕ → Summary → Summary → CursorSeen
cursor_seen u p r k here before = record { unit = u; population = p; rule = r; at = k; here = here; before = before }

abbrev pub objects_due : CursorSeen → List ℕ
objects_due c = context_objects c.unit c.population c.rule

-- how many pairs were told
abbrev pub told_pairs : CursorSeen → ℕ
told_pairs c = length (pairs_of_rules c.unit c.population c.rule) + c.at

-- the pair that is due, if any is left
abbrev pub due : CursorSeen → Option (ℕ × ℕ)
due c = slice_get (all_pairs c.unit c.population) (told_pairs c)

abbrev pub verdict_due : Verdicts → Option (ℕ × ℕ) → Option Verdict
verdict_due v None = None
verdict_due v (Some q) = v q.0 q.1

-- what was told so far are these verdicts
pub record IsToldBy (c : CursorSeen) (v : Verdicts) : Type 0 where
  pub here : c.here ≡ counts_of (map (v c.rule) (take c.at (objects_due c)))
  pub before : c.before ≡ counts_of (verdicts_below c.unit c.population v c.rule)

-- One pair more was told: what was appended is the next part of the report by any verdicts that were told so far, and now.
pub record IsToldMore (old : CursorSeen) (w : Verdict) (old_bytes : List ℕ) (new : CursorSeen) (new_bytes : List ℕ) : Type 0 where
  pub unit : new.unit ≡ old.unit
  pub population : new.population ≡ old.population
  pub more : told_pairs new ≡ suc (told_pairs old)
  pub told : (v : Verdicts) → IsToldBy old v → verdict_due v (due old) ≡ Some w → IsToldBy new v
  pub part : (v : Verdicts) → IsToldBy old v → verdict_due v (due old) ≡ Some w → new_bytes ≡ old_bytes ++ part_of old.unit old.population v (suc (told_pairs old))

-- ---- how much can be appended

-- the lines of `many` rules from one on, which have no objects
abbrev pub lines_without : Content → ℕ → ℕ → List ℕ
lines_without u from zero = []
lines_without u from (suc many) = lines_without u from many ++ rule_line_of (name_of u (from + many)) 0 (counts_of [])

-- the first of `most` rules from one on that has objects, or the rule after them
abbrev pub next_from : Content → Population → ℕ → ℕ → ℕ
next_from u p zero r = r
next_from u p (suc most) r = if length (context_objects u p r) == 0 then next_from u p most (suc r) else r

-- the first rule from one on that has objects, or the number of rules
abbrev pub next_rule : Content → Population → ℕ → ℕ
next_rule u p r = next_from u p (length u.rules - r) r

-- the total, where no rule is left
abbrev pub total_at : Content → ℕ → Summary → List ℕ
total_at u next s = if next == length u.rules then total_line s else []

-- what stands between the line of a rule and the next line of an object, or the end
abbrev pub lines_between : Content → ℕ → ℕ → Summary → List ℕ
lines_between u from next s = lines_without u from (next - from) ++ total_at u next s

-- what is appended where a rule's last object is told
abbrev pub ending_of_rule : CursorSeen → Verdict → List ℕ
ending_of_rule c w =
    rule_line_of (name_of c.unit c.rule) (length (objects_due c)) (counted c.here w)
    ++ lines_between c.unit (suc c.rule) (next_rule c.unit c.population (suc c.rule)) (counts_joined c.before (counted c.here w))

-- what is appended where a verdict is told
abbrev pub told_text : CursorSeen → Verdict → List ℕ
told_text c w =
    line_of (Some w) (name_of c.unit c.rule) (object_at c.population (slice_index_or (objects_due c) c.at 0)).id
    ++ (if nat_lt (suc c.at) (length (objects_due c)) then [] else ending_of_rule c w)

abbrev pub greatest_told : CursorSeen → ℕ
greatest_told c = max (length (told_text c Holds)) (max (length (told_text c Fails)) (length (told_text c Undecided)))

-- the greatest number of bytes that can be appended now
abbrev pub room_of : CursorSeen → ℕ
room_of c = if c.rule == length c.unit.rules then 0 else greatest_told c

-- ---- what each cursor keeps

pub record StandsWithin (c : CursorSeen) : Type 0 where
  pub within : c.rule ≤ length c.unit.rules
  pub some : c.rule < length c.unit.rules → c.at < length (objects_due c)
  pub none : c.rule ≡ length c.unit.rules → c.at ≡ 0
  pub few_here : all_counted c.here ≤ c.at
  pub few_before : all_counted c.before ≤ c.rule * MAX_OBJECTS
  -- at the end all counts are those before
  pub end_here : c.rule ≡ length c.unit.rules → c.here ≡ counts_of []
