-- No report is longer than the one where no verdict is decided: a verdict that is decided may add digits to the counts, and
-- saves more than that in the line of its object.
use Rattle.std.proofs.Common.{◌≡◌, ℕ, zero, suc, ◌+◌, ◌-◌, ◌*◌, ◌^◌, ◌/◌, ◌<◌, ◌≤◌, List, [], ◌∷◌, ◌++◌, length, map, take, get_or, refl, sym, ap, ◌∙◌, subst, inl, inr, arith, length-append, if◌then◌else◌, Option, Some, None}
use Rattle.std.specs.Prelude.{codes}
use Rattle.std.specs.List.{flat_map}
use Rattle.std.specs.Fmt.{decimal}
use Rattle.std.specs.Int.Digits.{digits_of}
use Rattle.std.proofs.lemmas.Bool.Decides.{eqb_tells}
use Rattle.std.proofs.lemmas.Bool.{cases_lt}
use Rattle.std.proofs.lemmas.Fmt.{decimal-digits_of, decimal_nonempty, decimal_digit, length-decimal-le_succ}
use Rattle.std.proofs.lemmas.Int.Digits.{length-digits_of_step}
use Rattle.std.proofs.lemmas.List.{length-map, length-take-le, take_all}
use Rattle.imkl_population.specs.Population.{Population, object_at}
use Rattle.rule_code.specs.declared.limits.TheConstants.{MAX_RULES}
use Rattle.imkl_population.specs.declared.limits.TheConstants.{MAX_OBJECTS}
use Rattle.imkl_population.specs.Consistency.{IsConsistent}
use Rattle.rule_code.specs.Content.{Content}
use Rattle.rule_code.specs.WellFormed.{IsUnit}
use Rattle.rule_verify.specs.UnitRules.{context_class, unit_rule}
use Rattle.rule_values.specs.declared.verdict.Verdict.{Verdict}
use Rattle.rule_values.specs.declared.verdict.Verdict.TheVariants.{Holds, Fails, Undecided}
use Rattle.rule_report.specs.declared.summary.Summary.{Summary}
use Rattle.rule_report.specs.Report.{Verdicts, context_objects, rule_verdicts, verdicts_below, count, counts_of, name_of, line_of, object_line, rule_line_of, rule_line, total_line, report_of_rule, reports_below, report_by, all_undecided, longest_report}
use Rattle.rule_report.specs.Counting.{counted, counts_joined}
use Rattle.rule_report.specs.Cursor.{CursorSeen, pairs_of_rules, all_pairs, part_of, report_until, objects_due, told_pairs, IsToldBy, lines_without, next_rule, total_at, lines_between, ending_of_rule, told_text, greatest_told, room_of, StandsWithin}
use Rattle.rule_report.proofs.Counts.{plus_one, count_of_both, counts_more, counts_of_both, few_instances}
use Rattle.rule_report.proofs.Reports.{text_more}
use Rattle.rule_report.proofs.Told.{as_many_pairs, pairs_of_rule, reported, until_pair, until_end, until_next}
use Rattle.rule_report.proofs.Pairs.{until_between, told_now, text_here, text_last, due_within}

-- ---- digits

digits_grow : (most m n : ℕ) → m ≤ most → m ≤ n → length (digits_of 10 m) ≤ length (digits_of 10 n)
digits_grow most zero n few l = omega arith
digits_grow zero (suc m) n few l = absurd (omega (arith, few))
digits_grow (suc most) (suc m) n few l =
    let later = digits_grow most (suc m / 10) (n / 10) (omega (arith, few)) (omega (arith, l)) in
    omega (arith, later, length-digits_of_step 10 (suc m) (omega arith) (omega arith), length-digits_of_step 10 n (omega arith) (omega (arith, l)))

-- a greater number has no fewer digits
decimal_grows : (m n : ℕ) → m ≤ n → n < 2 ^ 64 → length (decimal m) ≤ length (decimal n)
decimal_grows zero n l small = omega (arith, ap length (decimal_digit 0 (omega arith)), decimal_nonempty n small)
decimal_grows (suc m) n l small =
    omega (
      arith,
      digits_grow (suc m) (suc m) n (omega arith) l,
      ap length (decimal-digits_of (suc m) (omega arith) (omega (arith, l, small))),
      ap length (decimal-digits_of n (omega (arith, l)) small),
      length-map (digits_of 10 (suc m)) (λ d. 48 + d),
      length-map (digits_of 10 n) (λ d. 48 + d),
    )

-- ---- how many verdicts are decided

abbrev decided : List (Option Verdict) → ℕ
decided vs = count Holds vs + count Fails vs

decided_both : (xs ys : List (Option Verdict)) → decided (xs ++ ys) ≡ decided xs + decided ys
decided_both xs ys = omega (arith, count_of_both Holds xs ys, count_of_both Fails xs ys)

-- no verdict is counted twice
counted_once : (vs : List (Option Verdict)) → decided vs + count Undecided vs ≤ length vs
counted_once [] = omega arith
counted_once (None ∷ vs) = omega (arith, counted_once vs)
counted_once (Some Holds ∷ vs) = omega (arith, counted_once vs)
counted_once (Some Fails ∷ vs) = omega (arith, counted_once vs)
counted_once (Some Undecided ∷ vs) = omega (arith, counted_once vs)

-- where none is decided, all are undecided
all_counted_undecided : (r : ℕ) (os : List ℕ) → count Undecided (map (all_undecided r) os) ≡ length os
all_counted_undecided r [] = refl
all_counted_undecided r (o ∷ os) = omega (arith, all_counted_undecided r os)

all_below_undecided : (u : Content) (p : Population) (n : ℕ) → count Undecided (verdicts_below u p all_undecided n) ≡ length (pairs_of_rules u p n)
all_below_undecided u p zero = refl
all_below_undecided u p (suc r) =
    omega (
      arith,
      all_below_undecided u p r,
      count_of_both Undecided (verdicts_below u p all_undecided r) (rule_verdicts u p all_undecided r),
      all_counted_undecided r (context_objects u p r),
      pairs_of_rule u p r,
    )

few_objects : (u : Content) (p : Population) (r : ℕ) → IsConsistent p → length (context_objects u p r) ≤ MAX_OBJECTS
few_objects u p r consistent = few_instances p (context_class p.model u (unit_rule u r)) consistent

few_pairs : (u : Content) (p : Population) (n : ℕ) → IsConsistent p → length (pairs_of_rules u p n) ≤ n * MAX_OBJECTS
few_pairs u p zero consistent = omega arith
few_pairs u p (suc r) consistent = omega (arith, few_pairs u p r consistent, few_objects u p r consistent, pairs_of_rule u p r)

-- ---- lines of objects

named_length : (word name id : List ℕ) → length (word ++ (name ++ (32 ∷ (id ++ 10 ∷ [])))) ≡ length word + length name + length id + 2
named_length word name id = omega (arith, length-append word (name ++ (32 ∷ (id ++ 10 ∷ []))), length-append name (32 ∷ (id ++ 10 ∷ [])), length-append id (10 ∷ []))

line_saves : (w : Option Verdict) (name id : List ℕ) → length (line_of w name id) + 2 * decided (w ∷ []) ≤ length (line_of (Some Undecided) name id)
line_saves None name id = omega arith
line_saves (Some Holds) name id = omega (arith, named_length (codes "undecided ") name id)
line_saves (Some Fails) name id = omega (arith, named_length (codes "fail ") name id, named_length (codes "undecided ") name id)
line_saves (Some Undecided) name id = omega arith

lines_save : (u : Content) (p : Population) (v : Verdicts) (r : ℕ) (os : List ℕ)
    → length (flat_map (object_line u p v r) os) + 2 * decided (map (v r) os) ≤ length (flat_map (object_line u p all_undecided r) os)
lines_save u p v r [] = omega arith
lines_save u p v r (o ∷ os) =
    omega (
      arith,
      lines_save u p v r os,
      line_saves (v r o) (name_of u r) (object_at p o).id,
      decided_both (v r o ∷ []) (map (v r) os),
      length-append (object_line u p v r o) (flat_map (object_line u p v r) os),
      length-append (object_line u p all_undecided r o) (flat_map (object_line u p all_undecided r) os),
    )

-- ---- lines of counts

rule_line_length : (name : List ℕ) (n : ℕ) (s : Summary)
    → length (rule_line_of name n s) ≡ 40 + length name + length (decimal n) + length (decimal s.holds) + length (decimal s.fails) + length (decimal s.undecided)
rule_line_length name n s =
    let undecided = decimal s.undecided ++ 10 ∷ [] in
    let fails = decimal s.fails ++ (codes " undecided " ++ undecided) in
    let holds = decimal s.holds ++ (codes " fails " ++ fails) in
    let objects = decimal n ++ (codes " holds " ++ holds) in
    omega (
      arith,
      length-append (codes "rule ") (name ++ (codes " checked " ++ objects)),
      length-append name (codes " checked " ++ objects),
      length-append (codes " checked ") objects,
      length-append (decimal n) (codes " holds " ++ holds),
      length-append (codes " holds ") holds,
      length-append (decimal s.holds) (codes " fails " ++ fails),
      length-append (codes " fails ") fails,
      length-append (decimal s.fails) (codes " undecided " ++ undecided),
      length-append (codes " undecided ") undecided,
      length-append (decimal s.undecided) (10 ∷ []),
    )

total_line_length : (s : Summary) → length (total_line s) ≡ 24 + length (decimal s.fails) + length (decimal s.undecided)
total_line_length s =
    let undecided = decimal s.undecided ++ 10 ∷ [] in
    omega (
      arith,
      length-append (codes "total fails ") (decimal s.fails ++ (codes " undecided " ++ undecided)),
      length-append (decimal s.fails) (codes " undecided " ++ undecided),
      length-append (codes " undecided ") undecided,
      length-append (decimal s.undecided) (10 ∷ []),
    )

-- verdicts, and as many or more of which none is decided
module _ (vs ws : List (Option Verdict)) (more : length vs ≤ count Undecided ws) (few : length ws < 2 ^ 64) where
  few_undecided : count Undecided ws < 2 ^ 64
  few_undecided = omega (arith, counted_once ws, few)

  undecided_digits : length (decimal (count Undecided vs)) ≤ length (decimal (count Undecided ws))
  undecided_digits = decimal_grows (count Undecided vs) (count Undecided ws) (omega (arith, counted_once vs, more)) few_undecided

  fails_digits : length (decimal (count Fails vs)) ≤ length (decimal (count Fails ws)) + count Fails vs
  fails_digits =
      omega (
        arith,
        length-decimal-le_succ (count Fails vs) (omega (arith, counted_once vs, counted_once ws, more, few)),
        decimal_nonempty (count Fails ws) (omega (arith, counted_once ws, few)),
      )

  holds_digits : length (decimal (count Holds vs)) ≤ length (decimal (count Holds ws)) + count Holds vs
  holds_digits =
      omega (
        arith,
        length-decimal-le_succ (count Holds vs) (omega (arith, counted_once vs, counted_once ws, more, few)),
        decimal_nonempty (count Holds ws) (omega (arith, counted_once ws, few)),
      )

  rule_line_grows : (name : List ℕ) (n : ℕ) → length (rule_line_of name n (counts_of vs)) ≤ length (rule_line_of name n (counts_of ws)) + decided vs
  rule_line_grows name n =
      omega (arith, rule_line_length name n (counts_of vs), rule_line_length name n (counts_of ws), undecided_digits, fails_digits, holds_digits)

  total_line_grows : length (total_line (counts_of vs)) ≤ length (total_line (counts_of ws)) + decided vs
  total_line_grows = omega (arith, total_line_length (counts_of vs), total_line_length (counts_of ws), undecided_digits, fails_digits)

  between_grows : (u : Content) (from next : ℕ) → length (lines_between u from next (counts_of vs)) ≤ length (lines_between u from next (counts_of ws)) + decided vs
  between_grows u from next =
      omega (
        arith,
        length-append (lines_without u from (next - from)) (total_at u next (counts_of vs)),
        length-append (lines_without u from (next - from)) (total_at u next (counts_of ws)),
        total_grows,
      )
    where
      total_grows : length (total_at u next (counts_of vs)) ≤ length (total_at u next (counts_of ws)) + decided vs
      total_grows =
          elim (eqb_tells next (length u.rules)) [
            | inl t ↦
                omega (
                  arith,
                  ap (λ b. length (if b then total_line (counts_of vs) else [])) t.0,
                  ap (λ b. length (if b then total_line (counts_of ws) else [])) t.0,
                  total_line_grows,
                )
            | inr t ↦ omega (arith, ap (λ b. length (if b then total_line (counts_of vs) else [])) t.0)
          ]

-- ---- reports of rules

rule_saves : (u : Content) (p : Population) (v : Verdicts) (r : ℕ) → IsConsistent p
    → length (report_of_rule u p v r) + decided (rule_verdicts u p v r) ≤ length (report_of_rule u p all_undecided r)
rule_saves u p v r consistent =
    let os = context_objects u p r in
    let few = few_objects u p r consistent in
    let line = rule_line_grows (map (v r) os) (map (all_undecided r) os) (omega (arith, length-map os (v r), all_counted_undecided r os)) (omega (arith, few, length-map os (all_undecided r))) (name_of u r) (length os) in
    omega (
      arith,
      lines_save u p v r os,
      line,
      length-append (flat_map (object_line u p v r) os) (rule_line u p v r),
      length-append (flat_map (object_line u p all_undecided r) os) (rule_line u p all_undecided r),
    )

reports_save : (u : Content) (p : Population) (v : Verdicts) (n : ℕ) → IsConsistent p
    → length (reports_below u p v n) + decided (verdicts_below u p v n) ≤ length (reports_below u p all_undecided n)
reports_save u p v zero consistent = omega arith
reports_save u p v (suc r) consistent =
    omega (
      arith,
      reports_save u p v r consistent,
      rule_saves u p v r consistent,
      decided_both (verdicts_below u p v r) (rule_verdicts u p v r),
      length-append (reports_below u p v r) (report_of_rule u p v r),
      length-append (reports_below u p all_undecided r) (report_of_rule u p all_undecided r),
    )

-- as many pairs as verdicts, of which there are few
undecided_many : (u : Content) (p : Population) (n : ℕ) → IsConsistent p → n ≤ MAX_RULES → length (verdicts_below u p all_undecided n) < 2 ^ 64
undecided_many u p n consistent l = omega (arith, as_many_pairs u p all_undecided n, few_pairs u p n consistent, l)

pub no_report_is_longer : (u : Content) (p : Population) (v : Verdicts) → IsUnit u → IsConsistent p → length (report_by u p v) ≤ longest_report u p
no_report_is_longer u p v unit consistent =
    let n = length u.rules in
    let vs = verdicts_below u p v n in
    let ws = verdicts_below u p all_undecided n in
    let total = total_line_grows vs ws (omega (arith, as_many_pairs u p v n, all_below_undecided u p n)) (undecided_many u p n consistent unit.rule_count) in
    omega (
      arith,
      reports_save u p v n consistent,
      total,
      length-append (reports_below u p v n) (total_line (counts_of vs)),
      length-append (reports_below u p all_undecided n) (total_line (counts_of ws)),
    )

-- ---- what can be told now

pub lines_next : (f : ℕ → List ℕ) (os : List ℕ) (k : ℕ) → k < length os → length (flat_map f (take (k + 1) os)) ≡ length (flat_map f (take k os)) + length (f (get_or os k 0))
lines_next f os k there =
    let here = flat_map f (take k os) in
    let line = f (get_or os k 0) in
    omega (arith, ap length (text_more f os k 0 [] here (here ++ line) there refl refl), length-append here line)

reported_next : (u : Content) (p : Population) (v : Verdicts) (r k : ℕ) → k < length (context_objects u p r)
    → length (reported u p v r (k + 1)) ≡ length (reported u p v r k) + length (object_line u p v r (get_or (context_objects u p r) k 0))
reported_next u p v r k there =
    let os = context_objects u p r in
    omega (
      arith,
      lines_next (object_line u p v r) os k there,
      length-append (reports_below u p v r) (flat_map (object_line u p v r) (take k os)),
      length-append (reports_below u p v r) (flat_map (object_line u p v r) (take (k + 1) os)),
    )

reported_saves : (u : Content) (p : Population) (v : Verdicts) (r k : ℕ) → IsConsistent p
    → length (reported u p v r k) + decided (verdicts_below u p v r) + 2 * decided (map (v r) (take k (context_objects u p r))) ≤ length (reported u p all_undecided r k)
reported_saves u p v r k consistent =
    let os = take k (context_objects u p r) in
    omega (
      arith,
      reports_save u p v r consistent,
      lines_save u p v r os,
      length-append (reports_below u p v r) (flat_map (object_line u p v r) os),
      length-append (reports_below u p all_undecided r) (flat_map (object_line u p all_undecided r) os),
    )

until_grows : (u : Content) (p : Population) (v : Verdicts) (n k : ℕ) → n + k ≤ length (all_pairs u p) → length (report_until u p v n) ≤ length (report_until u p v (n + k))
until_grows u p v n zero l = let same : n + zero ≡ n = omega arith in omega (arith, ap (λ k. length (report_until u p v k)) same)
until_grows u p v n (suc k) l =
    let next : n + suc k ≡ suc (n + k) = omega arith in
    omega (
      arith,
      until_grows u p v n k (omega (arith, l)),
      ap (λ k. length (report_until u p v k)) next,
      ap length (until_next u p v (n + k) (omega (arith, l))),
      length-append (report_until u p v (n + k)) (part_of u p v (suc (n + k))),
    )

-- a report that is cut isn't longer than the whole
until_within : (u : Content) (p : Population) (v : Verdicts) (n : ℕ) → n ≤ length (all_pairs u p) → length (report_until u p v n) ≤ length (report_by u p v)
until_within u p v n l =
    let whole : n + (length (all_pairs u p) - n) ≡ length (all_pairs u p) = omega (arith, l) in
    omega (arith, until_grows u p v n (length (all_pairs u p) - n) (omega (arith, l)), ap (λ k. length (report_until u p v k)) whole, ap length (until_end u p v))

module _ (c : CursorSeen) (v : Verdicts) (w : Verdict) (placed : StandsWithin c) (consistent : IsConsistent c.population) (few : length c.unit.rules ≤ MAX_RULES) (within : c.rule < length c.unit.rules) (told : IsToldBy c v) where
  there : c.at < length (objects_due c)
  there = placed.some within

  abbrev object_due : ℕ
  object_due = get_or (objects_due c) c.at 0

  abbrev line_due : List ℕ
  line_due = line_of (Some w) (name_of c.unit c.rule) (object_at c.population object_due).id

  -- more objects of the rule are left
  here_within : c.at + 1 < length (objects_due c)
      → length (report_until c.unit c.population v (told_pairs c)) + length (told_text c w) ≤ length (report_until c.unit c.population all_undecided (suc (told_pairs c)))
  here_within left =
      let next : suc (told_pairs c) ≡ length (pairs_of_rules c.unit c.population c.rule) + (c.at + 1) = omega arith in
      omega (
        arith,
        ap length (told_now c v placed within),
        ap length (text_here c w left),
        ap length (ap (report_until c.unit c.population all_undecided) next ∙ until_pair c.unit c.population all_undecided c.rule (c.at + 1) within left),
        reported_saves c.unit c.population v c.rule c.at consistent,
        reported_next c.unit c.population all_undecided c.rule c.at there,
        line_saves (Some w) (name_of c.unit c.rule) (object_at c.population object_due).id,
      )

  -- the rule's verdicts, and those of all rules up to it, with the one that is told
  abbrev rule_told : List (Option Verdict)
  rule_told = map (v c.rule) (take c.at (objects_due c)) ++ Some w ∷ []

  abbrev all_told : List (Option Verdict)
  all_told = verdicts_below c.unit c.population v c.rule ++ rule_told

  here_is : counted c.here w ≡ counts_of rule_told
  here_is = ap (λ s. counted s w) told.here ∙ sym (counts_more (map (v c.rule) (take c.at (objects_due c))) w)

  sums_are : counts_joined c.before (counted c.here w) ≡ counts_of all_told
  sums_are =
      ap (λ s. counts_joined s (counted c.here w)) told.before ∙ ap (counts_joined (counts_of (verdicts_below c.unit c.population v c.rule))) here_is
      ∙ sym (counts_of_both (verdicts_below c.unit c.population v c.rule) rule_told)

  as_many_told : length rule_told ≡ c.at + 1
  as_many_told =
      omega (
        arith,
        length-append (map (v c.rule) (take c.at (objects_due c))) (Some w ∷ []),
        length-map (take c.at (objects_due c)) (v c.rule),
        length-take-le c.at (objects_due c) (omega (arith, there)),
      )

  -- it was the last object of the rule
  last_within : c.at + 1 ≡ length (objects_due c)
      → length (report_until c.unit c.population v (told_pairs c)) + length (told_text c w) ≤ length (report_until c.unit c.population all_undecided (suc (told_pairs c)))
  last_within last =
      let u = c.unit in
      let p = c.population in
      let from = suc c.rule in
      let next = next_rule u p from in
      let ws = map (all_undecided c.rule) (objects_due c) in
      let below = verdicts_below u p all_undecided from in
      let rule_lines = rule_line_grows rule_told ws (omega (arith, as_many_told, last, all_counted_undecided c.rule (objects_due c))) (omega (arith, few_objects u p c.rule consistent, length-map (objects_due c) (all_undecided c.rule)))
      (name_of u c.rule) (length (objects_due c)) in
      let between = between_grows all_told below
      (omega (arith, length-append (verdicts_below u p v c.rule) rule_told, as_many_told, last, as_many_pairs u p v c.rule, pairs_of_rule u p c.rule, all_below_undecided u p from))
      (undecided_many u p from consistent (omega (arith, few, within))) u from next in
      let pairs_from : suc (told_pairs c) ≡ length (pairs_of_rules u p from) = omega (arith, last, pairs_of_rule u p c.rule) in
      let rule_text = rule_line_of (name_of u c.rule) (length (objects_due c)) (counted c.here w) in
      let between_text = lines_between u from next (counts_joined c.before (counted c.here w)) in
      omega (
        arith,
        ap length (told_now c v placed within),
        ap length (text_last c w last),
        length-append line_due (ending_of_rule c w),
        length-append rule_text between_text,
        ap (λ s. length (rule_line_of (name_of u c.rule) (length (objects_due c)) s)) here_is,
        ap (λ s. length (lines_between u from next s)) sums_are,
        rule_lines,
        between,
        decided_both (map (v c.rule) (take c.at (objects_due c))) (Some w ∷ []),
        decided_both (verdicts_below u p v c.rule) rule_told,
        reported_saves u p v c.rule c.at consistent,
        line_saves (Some w) (name_of u c.rule) (object_at p object_due).id,
        reported_next u p all_undecided c.rule c.at there,
        ap (λ (os : List ℕ). length (reports_below u p all_undecided c.rule ++ flat_map (object_line u p all_undecided c.rule) os)) (take_all (c.at + 1) (objects_due c) (omega (arith, last))),
        length-append (reports_below u p all_undecided c.rule) (flat_map (object_line u p all_undecided c.rule) (objects_due c)),
        length-append (reports_below u p all_undecided c.rule) (report_of_rule u p all_undecided c.rule),
        length-append (flat_map (object_line u p all_undecided c.rule) (objects_due c)) (rule_line u p all_undecided c.rule),
        ap length (ap (report_until u p all_undecided) pairs_from ∙ until_between u p all_undecided from (counts_of below) (omega (arith, within)) refl),
        length-append (reports_below u p all_undecided from) (lines_between u from next (counts_of below)),
      )

  pub text_within : length (report_until c.unit c.population v (told_pairs c)) + length (told_text c w) ≤ longest_report c.unit c.population
  text_within =
      let whole = until_within c.unit c.population all_undecided (suc (told_pairs c)) (omega (arith, due_within c placed within)) in
      elim (cases_lt (c.at + 1) (length (objects_due c))) [
        | inl l ↦ omega (arith, here_within l, whole)
        | inr g ↦ omega (arith, last_within (omega (arith, g, there)), whole)
      ]

-- what can be told now has room in the longest report, with what was told
room_within : (c : CursorSeen) (v : Verdicts) → StandsWithin c → IsConsistent c.population → IsUnit c.unit → IsToldBy c v → length (report_until c.unit c.population v (told_pairs c)) + room_of c ≤ longest_report c.unit c.population
room_within c v placed consistent unit told =
    elim (eqb_tells c.rule (length c.unit.rules)) [
      | inl t ↦
          let room : room_of c ≡ 0 = ap (λ b. if b then 0 else greatest_told c) t.0 in
          let whole = until_within c.unit c.population v (told_pairs c) (omega (arith, placed.none t.1, ap (λ r. length (pairs_of_rules c.unit c.population r)) t.1)) in
          omega (arith, room, whole, no_report_is_longer c.unit c.population v unit consistent)
      | inr t ↦
          let room : room_of c ≡ greatest_told c = ap (λ b. if b then 0 else greatest_told c) t.0 in
          let within : c.rule < length c.unit.rules = omega (arith, t.1, placed.within) in
          let each : (w : Verdict) → _ = λ w. text_within c v w placed consistent unit.rule_count within told in
          omega (arith, room, each Holds, each Fails, each Undecided)
    ]

-- the same of a cursor that is seen so
pub room_within_seen : (c d : CursorSeen) (v : Verdicts) → c ≡ d → StandsWithin c → IsConsistent c.population → IsUnit c.unit → IsToldBy d v
    → length (report_until d.unit d.population v (told_pairs d)) + room_of d ≤ longest_report d.unit d.population
room_within_seen c d v same placed consistent unit told =
    subst (λ (x : CursorSeen). length (report_until x.unit x.population v (told_pairs x)) + room_of x ≤ longest_report x.unit x.population) same
    (room_within c v placed consistent unit (subst (λ (x : CursorSeen). IsToldBy x v) (sym same) told))

-- ---- how long that report is

none_decided : (r : ℕ) (os : List ℕ) → decided (map (all_undecided r) os) ≡ 0
none_decided r [] = refl
none_decided r (o ∷ os) = omega (arith, none_decided r os)

none_decided_below : (u : Content) (p : Population) (n : ℕ) → decided (verdicts_below u p all_undecided n) ≡ 0
none_decided_below u p zero = refl
none_decided_below u p (suc r) =
    omega (
      arith,
      none_decided_below u p r,
      decided_both (verdicts_below u p all_undecided r) (rule_verdicts u p all_undecided r),
      none_decided r (context_objects u p r),
    )

abbrev undecided_alone : ℕ → Summary
undecided_alone n = record { holds = 0; fails = 0; undecided = n }

-- the counts of verdicts of which none is decided
counts_undecided : (vs : List (Option Verdict)) (n : ℕ) → decided vs ≡ 0 → count Undecided vs ≡ n → counts_of vs ≡ undecided_alone n
counts_undecided vs n none all =
    let holds : count Holds vs ≡ 0 = omega (arith, none) in
    let fails : count Fails vs ≡ 0 = omega (arith, none) in
    rw (holds, fails, all) refl

-- by the lengths of the lines of a rule's objects, and of its own line
pub undecided_rule_is : (u : Content) (p : Population) (r : ℕ) (name : List ℕ) (os : List ℕ) (lines line : ℕ) → name ≡ name_of u r → context_objects u p r ≡ os
    → lines ≡ length (flat_map (λ o. line_of (Some Undecided) name (object_at p o).id) os) → line ≡ length (rule_line_of name (length os) (undecided_alone (length os)))
    → lines + line ≡ length (report_of_rule u p all_undecided r)
undecided_rule_is u p r name os lines line named objects lines_are line_is =
    let here = context_objects u p r in
    omega (
      arith,
      lines_are,
      line_is,
      ap (λ n. length (flat_map (λ o. line_of (Some Undecided) n (object_at p o).id) os)) named,
      ap (λ xs. length (flat_map (object_line u p all_undecided r) xs)) objects,
      ap (λ n. length (rule_line_of n (length os) (undecided_alone (length os)))) named,
      ap (λ xs. length (rule_line_of (name_of u r) (length xs) (undecided_alone (length xs)))) objects,
      ap (λ s. length (rule_line_of (name_of u r) (length here) s)) (counts_undecided (rule_verdicts u p all_undecided r) (length here) (none_decided r here) (all_counted_undecided r here)),
      length-append (flat_map (object_line u p all_undecided r) here) (rule_line u p all_undecided r),
    )

-- with one rule more
pub undecided_more : (u : Content) (p : Population) (r before here : ℕ) → before ≡ length (reports_below u p all_undecided r) → here ≡ length (report_of_rule u p all_undecided r)
    → before + here ≡ length (reports_below u p all_undecided (r + 1))
undecided_more u p r before here so is =
    omega (
      arith,
      so,
      is,
      length-append (reports_below u p all_undecided r) (report_of_rule u p all_undecided r),
      ap (λ n. length (reports_below u p all_undecided n)) (plus_one r),
    )

pub pairs_more : (u : Content) (p : Population) (r : ℕ) (os : List ℕ) → context_objects u p r ≡ os → length (pairs_of_rules u p (r + 1)) ≡ length (pairs_of_rules u p r) + length os
pairs_more u p r os objects = omega (arith, pairs_of_rule u p r, ap (λ n. length (pairs_of_rules u p n)) (plus_one r), ap length objects)

-- with all rules, and the last line
pub longest_is : (u : Content) (p : Population) (n length_of_rules pairs last : ℕ) → n ≡ length u.rules → length_of_rules ≡ length (reports_below u p all_undecided n)
    → pairs ≡ length (pairs_of_rules u p n) → last ≡ length (total_line (undecided_alone pairs)) → length_of_rules + last ≡ longest_report u p
longest_is u p n length_of_rules pairs last all rules many total =
    let vs = verdicts_below u p all_undecided (length u.rules) in
    let as_many : count Undecided vs ≡ pairs = omega (arith, all_below_undecided u p (length u.rules), many, ap (λ k. length (pairs_of_rules u p k)) all) in
    omega (
      arith,
      rules,
      total,
      ap (λ k. length (reports_below u p all_undecided k)) all,
      ap (λ s. length (total_line s)) (counts_undecided vs pairs (none_decided_below u p (length u.rules)) as_many),
      length-append (reports_below u p all_undecided (length u.rules)) (total_line (counts_of vs)),
    )
