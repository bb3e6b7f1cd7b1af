-- What a cursor stands at, and what telling one verdict does.
use Rattle.std.proofs.Common.{◌≡◌, ℕ, zero, suc, ◌+◌, ◌-◌, ◌<◌, ◌≤◌, max, true, false, eqb, List, [], ◌++◌, length, map, take, get_or, refl, sym, ap, ◌∙◌, subst, inl, inr, arith, append_assoc, length-append, if◌then◌else◌, Option, Some, None}
use Rattle.std.specs.Prelude.{slice_get, nat_lt, IsSome}
use Rattle.std.proofs.lemmas.Bool.{cases_lt}
use Rattle.std.proofs.lemmas.Nat.{mul-le}
use Rattle.std.proofs.lemmas.Bool.Decides.{eqb_tells, leb_tells}
use Rattle.std.proofs.lemmas.List.{append-nil, append_cancel_left, get_or_append_left, get_or-append-add, get_or-map, nil_from_length}
use Rattle.std.proofs.lemmas.Option.{slice_get-get_or, slice_get_past}
use Rattle.std.proofs.Math.Nat.{eq-or-lt_of_le}
use Rattle.imkl_population.specs.Population.{Population, object_at}
use Rattle.imkl_population.specs.declared.limits.TheConstants.{MAX_OBJECTS}
use Rattle.imkl_population.specs.Consistency.{IsConsistent}
use Rattle.rule_code.specs.Content.{Content}
use Rattle.rule_verify.specs.UnitRules.{context_class, unit_rule}
use Rattle.rule_values.specs.declared.verdict.Verdict.{Verdict}
use Rattle.rule_values.specs.declared.verdict.Verdict.TheVariants.{Holds, Fails, Undecided}
use Rattle.rule_report.specs.declared.summary.Summary.{Summary}
use Rattle.rule_report.specs.Report.{Verdicts, context_objects, verdicts_below, all_verdicts, counts_of, name_of, line_of, object_line, rule_line, rule_line_of, total_line, reports_below}
use Rattle.rule_report.specs.Counting.{all_counted, counted, counts_joined}
use Rattle.rule_report.specs.Cursor.{pairs_of_rules, all_pairs, part_of, report_until, CursorSeen, cursor_seen, objects_due, told_pairs, due, verdict_due, IsToldBy, IsToldMore, lines_without, next_from, next_rule, total_at, lines_between, ending_of_rule, told_text, greatest_told, room_of, StandsWithin}
use Rattle.rule_report.proofs.Counts.{plus_one, counts_next, rule_counted, few_instances}
use Rattle.rule_report.proofs.Reports.{text_more, report_is, counts_are, reports_more}
use Rattle.rule_report.proofs.Told.{pairs_of_rule, as_many_pairs, reported, until_pair, until_end, until_next, until_first, reports_without, verdicts_without}

-- ---- the pair that is due

pair_stays : (u : Content) (p : Population) (r n i : ℕ) (d : ℕ × ℕ) → r ≤ n → i < length (pairs_of_rules u p r) → (get_or (pairs_of_rules u p n) i d ≡ get_or (pairs_of_rules u p r) i d) × (i < length (pairs_of_rules u p n))
pair_stays u p r zero i d h l =
    let e : r ≡ zero = omega (arith, h) in
    let P : ℕ → Type 0 = λ k. (get_or (pairs_of_rules u p zero) i d ≡ get_or (pairs_of_rules u p k) i d) × (i < length (pairs_of_rules u p zero)) in
    subst P (sym e) (refl, subst (λ k. i < length (pairs_of_rules u p k)) e l)
pair_stays u p r (suc n) i d h l =
    elim (eq-or-lt_of_le h) [
      | inl e ↦ (ap (λ k. get_or (pairs_of_rules u p k) i d) (sym e), subst (λ k. i < length (pairs_of_rules u p k)) e l)
      | inr s ↦
          let below = pair_stays u p r n i d (omega (arith, s)) l in
          (get_or_append_left (pairs_of_rules u p n) (map (λ o. (n, o)) (context_objects u p n)) d i below.1 ∙ below.0, omega (arith, below.1, pairs_of_rule u p n))
    ]

pub due_at : (u : Content) (p : Population) (r k : ℕ) → r < length u.rules → k < length (context_objects u p r)
    → slice_get (all_pairs u p) (length (pairs_of_rules u p r) + k) ≡ Some (r, get_or (context_objects u p r) k 0)
due_at u p r k within there =
    let d : ℕ × ℕ = (0, 0) in
    let i = length (pairs_of_rules u p r) + k in
    let os = context_objects u p r in
    let stays = pair_stays u p (suc r) (length u.rules) i d (omega (arith, within)) (omega (arith, there, pairs_of_rule u p r)) in
    slice_get-get_or (all_pairs u p) i d stays.1
    ∙ ap Some (stays.0 ∙ get_or-append-add (pairs_of_rules u p r) (map (λ o. (r, o)) os) k d ∙ get_or-map (λ o. (r, o)) os k 0 d there)

pub due_is : (c : CursorSeen) → StandsWithin c → c.rule < length c.unit.rules → due c ≡ Some (c.rule, get_or (objects_due c) c.at 0)
due_is c placed within = due_at c.unit c.population c.rule c.at within (placed.some within)

pub none_due : (c : CursorSeen) → StandsWithin c → c.rule ≡ length c.unit.rules → due c ≡ None
none_due c placed end =
    slice_get_past (all_pairs c.unit c.population) (told_pairs c)
    (omega (arith, placed.none end, ap (λ r. length (pairs_of_rules c.unit c.population r)) end))

pub at_end : (c : CursorSeen) → StandsWithin c → due c ≡ None → c.rule ≡ length c.unit.rules
at_end c placed none =
    elim (cases_lt c.rule (length c.unit.rules)) [
      | inl l ↦ let bad = due_is c placed l in cc
      | inr g ↦ omega (arith, g, placed.within)
    ]

some_none : {A : Type 0} (o : Option A) → o ≡ None → IsSome o → ⊥
some_none None e s = let bad = s in cc
some_none (Some x) e s = let bad = e in cc

pub is_due : (c : CursorSeen) → StandsWithin c → IsSome (due c) → c.rule < length c.unit.rules
is_due c placed some =
    elim (cases_lt c.rule (length c.unit.rules)) [
      | inl l ↦ l
      | inr g ↦ absurd (some_none (due c) (none_due c placed (omega (arith, g, placed.within))) some)
    ]

-- ---- the next rule that has objects

pub record IsNext (u : Content) (p : Population) (most from next : ℕ) : Type 0 where
  pub above : from ≤ next
  pub within : next ≤ from + most
  pub none : (n : ℕ) → from ≤ n → n < next → context_objects u p n ≡ []
  pub some : next < from + most → 0 < length (context_objects u p next)

empty_next : (u : Content) (p : Population) (most from next : ℕ) → length (context_objects u p from) ≡ 0 → IsNext u p most (suc from) next → IsNext u p (suc most) from next
empty_next u p most from next empty is = record {
  above = omega (arith, is.above);
  within = omega (arith, is.within);
  none = λ n l h. elim (eq-or-lt_of_le l) [
    | inl e ↦ subst (λ k. context_objects u p k ≡ []) e (nil_from_length (context_objects u p from) empty)
    | inr g ↦ is.none n (omega (arith, g)) h
  ];
  some = λ h. is.some (omega (arith, h));
}

pub next_from_is : (u : Content) (p : Population) (most from : ℕ) → IsNext u p most from (next_from u p most from)
next_from_is u p zero from = record { above = omega arith; within = omega arith; none = λ n l h. absurd (omega (arith, l, h)); some = λ h. absurd (omega (arith, h)) }
next_from_is u p (suc most) from =
    elim (eqb_tells (length (context_objects u p from)) 0) [
      | inl t ↦
          subst (λ b. IsNext u p (suc most) from (if b then next_from u p most (suc from) else from)) (sym t.0)
          (empty_next u p most from (next_from u p most (suc from)) t.1 (next_from_is u p most (suc from)))
      | inr t ↦
          subst (λ b. IsNext u p (suc most) from (if b then next_from u p most (suc from) else from)) (sym t.0)
          (let there : 0 < length (context_objects u p from) = omega (arith, t.1) in
          record { above = omega arith; within = omega arith; none = λ n l h. absurd (omega (arith, l, h)); some = λ h. there })
    ]

pub next_is : (u : Content) (p : Population) (from : ℕ) → from ≤ length u.rules → IsNext u p (length u.rules - from) from (next_rule u p from)
next_is u p from h = next_from_is u p (length u.rules - from) from

-- one rule on, where it has no objects
pub next_skips : (u : Content) (p : Population) (most r : ℕ) → length (context_objects u p r) ≡ 0 → next_from u p (suc most) r ≡ next_from u p most (suc r)
next_skips u p most r empty = ap (λ n. if eqb n 0 then next_from u p most (suc r) else r) empty

pub next_stops : (u : Content) (p : Population) (most r : ℕ) → 0 < length (context_objects u p r) → next_from u p most r ≡ r
next_stops u p zero r there = refl
next_stops u p (suc most) r there =
    elim (eqb_tells (length (context_objects u p r)) 0) [
      | inl t ↦ absurd (omega (arith, t.1, there))
      | inr t ↦ ap (λ b. if b then next_from u p most (suc r) else r) t.0
    ]

-- one rule on, as a loop goes
pub next_on : (u : Content) (p : Population) (end r : ℕ) → r < end → length (context_objects u p r) ≡ 0 → next_from u p (end - r) r ≡ next_from u p (end - (r + 1)) (r + 1)
next_on u p end r l empty =
    let left : end - r ≡ suc (end - (r + 1)) = omega (arith, l) in
    ap (λ k. next_from u p k r) left ∙ next_skips u p (end - (r + 1)) r empty ∙ ap (next_from u p (end - (r + 1))) (sym (plus_one r))

pub next_ends : (u : Content) (p : Population) (end r : ℕ) → end ≤ r → next_from u p (end - r) r ≡ r
next_ends u p end r l = let none : end - r ≡ zero = omega (arith, l) in ap (λ k. next_from u p k r) none

-- ---- from the end of a rule to the next line of an object

total_there : (u : Content) (next : ℕ) (s : Summary) → next ≡ length u.rules → total_at u next s ≡ total_line s
total_there u next s e =
    elim (eqb_tells next (length u.rules)) [
      | inl t ↦ ap (λ b. if b then total_line s else []) t.0
      | inr t ↦ absurd (t.1 e)
    ]

no_total : (u : Content) (next : ℕ) (s : Summary) → next < length u.rules → total_at u next s ≡ []
no_total u next s l =
    elim (eqb_tells next (length u.rules)) [
      | inl t ↦ absurd (omega (arith, t.1, l))
      | inr t ↦ ap (λ b. if b then total_line s else []) t.0
    ]

-- the pairs of rules without objects
pairs_without : (u : Content) (p : Population) (v : Verdicts) (from next : ℕ) → from ≤ next → ((n : ℕ) → from ≤ n → n < next → context_objects u p n ≡ [])
    → verdicts_below u p v next ≡ verdicts_below u p v from
pairs_without u p v from next l none =
    let e : from + (next - from) ≡ next = omega (arith, l) in
    ap (verdicts_below u p v) (sym e) ∙ verdicts_without u p v from (next - from) (λ n g h. none n g (omega (arith, h)))

reports_at_next : (u : Content) (p : Population) (v : Verdicts) (from next : ℕ) → from ≤ next → ((n : ℕ) → from ≤ n → n < next → context_objects u p n ≡ [])
    → reports_below u p v next ≡ reports_below u p v from ++ lines_without u from (next - from)
reports_at_next u p v from next l none =
    let e : from + (next - from) ≡ next = omega (arith, l) in
    ap (reports_below u p v) (sym e) ∙ reports_without u p v from (next - from) (λ n g h. none n g (omega (arith, h)))

-- The report up to the next line of an object, or to the end, is the report of the rules before and what stands between.
pub until_between : (u : Content) (p : Population) (v : Verdicts) (from : ℕ) (s : Summary) → from ≤ length u.rules → s ≡ counts_of (verdicts_below u p v from)
    → report_until u p v (length (pairs_of_rules u p from)) ≡ reports_below u p v from ++ lines_between u from (next_rule u p from) s
until_between u p v from s h counted_so =
    let next = next_rule u p from in
    let is = next_is u p from h in
    let text = reports_at_next u p v from next is.above is.none in
    let many : length (pairs_of_rules u p from) ≡ length (pairs_of_rules u p next) =
    sym (as_many_pairs u p v from) ∙ ap length (sym (pairs_without u p v from next is.above is.none)) ∙ as_many_pairs u p v next in
    elim (cases_lt next (length u.rules)) [
      | inl l ↦
          let k : length (pairs_of_rules u p from) ≡ length (pairs_of_rules u p next) + 0 = omega (arith, many) in
          ap (report_until u p v) k ∙ until_pair u p v next 0 l (is.some (omega (arith, l, h)))
          ∙ append-nil (reports_below u p v next) ∙ text
          ∙ ap (λ (x : List ℕ). reports_below u p v from ++ x) (sym (append-nil (lines_without u from (next - from))))
          ∙ ap (λ (x : List ℕ). reports_below u p v from ++ (lines_without u from (next - from) ++ x)) (sym (no_total u next s l))
      | inr g ↦
          let end : next ≡ length u.rules = omega (arith, g, is.within, h) in
          let so : counts_of (all_verdicts u p v) ≡ s = ap (λ n. counts_of (verdicts_below u p v n)) (sym end) ∙ ap counts_of (pairs_without u p v from next is.above is.none) ∙ sym counted_so in
          ap (report_until u p v) (many ∙ ap (λ n. length (pairs_of_rules u p n)) end) ∙ until_end u p v
          ∙ ap (λ (x : Summary). reports_below u p v (length u.rules) ++ total_line x) so
          ∙ ap (λ (n : ℕ). reports_below u p v n ++ total_line s) (sym end)
          ∙ ap (λ (x : List ℕ). x ++ total_line s) text
          ∙ append_assoc (reports_below u p v from) (lines_without u from (next - from)) (total_line s)
          ∙ ap (λ (x : List ℕ). reports_below u p v from ++ (lines_without u from (next - from) ++ x)) (sym (total_there u next s end))
    ]

-- what a cursor begins with
pub first_part : (u : Content) (p : Population) (v : Verdicts) → lines_between u 0 (next_rule u p 0) (counts_of []) ≡ part_of u p v 0
first_part u p v = sym (until_between u p v 0 (counts_of []) (omega arith) refl) ∙ until_first u p v

-- ---- one verdict is told

-- what is due by verdicts is the one that is told
verdict_here : (c : CursorSeen) (v : Verdicts) (w : Verdict) → StandsWithin c → c.rule < length c.unit.rules → verdict_due v (due c) ≡ Some w → v c.rule (get_or (objects_due c) c.at 0) ≡ Some w
verdict_here c v w placed within is = ap (verdict_due v) (sym (due_is c placed within)) ∙ is

-- bytes that end the report up to the next pair are the next part
part_from : (u : Content) (p : Population) (v : Verdicts) (n : ℕ) (before text : List ℕ) → n < length (all_pairs u p)
    → report_until u p v n ≡ before → report_until u p v (suc n) ≡ before ++ text → text ≡ part_of u p v (suc n)
part_from u p v n before text there now after =
    append_cancel_left before text (part_of u p v (suc n)) (sym after ∙ until_next u p v n there ∙ ap (λ (x : List ℕ). x ++ part_of u p v (suc n)) now)

pub due_within : (c : CursorSeen) → StandsWithin c → c.rule < length c.unit.rules → told_pairs c < length (all_pairs c.unit c.population)
due_within c placed within =
    let d : ℕ × ℕ = (0, 0) in
    (pair_stays c.unit c.population (suc c.rule) (length c.unit.rules) (told_pairs c) d (omega (arith, within)) (omega (arith, placed.some within, pairs_of_rule c.unit c.population c.rule))).1

-- the line that is put
line_told : (c : CursorSeen) (v : Verdicts) (w : Verdict) → v c.rule (get_or (objects_due c) c.at 0) ≡ Some w
    → line_of (Some w) (name_of c.unit c.rule) (object_at c.population (get_or (objects_due c) c.at 0)).id ≡ object_line c.unit c.population v c.rule (get_or (objects_due c) c.at 0)
line_told c v w is = ap (λ x. line_of x (name_of c.unit c.rule) (object_at c.population (get_or (objects_due c) c.at 0)).id) (sym is)

-- what was reported, and the line of the pair that is due
line_more : (c : CursorSeen) (v : Verdicts) (w : Verdict) → StandsWithin c → c.rule < length c.unit.rules → v c.rule (get_or (objects_due c) c.at 0) ≡ Some w
    → reported c.unit c.population v c.rule c.at ++ line_of (Some w) (name_of c.unit c.rule) (object_at c.population (get_or (objects_due c) c.at 0)).id
    ≡ reported c.unit c.population v c.rule (c.at + 1)
line_more c v w placed within is =
    text_more (object_line c.unit c.population v c.rule) (objects_due c) c.at 0 (reports_below c.unit c.population v c.rule) (reported c.unit c.population v c.rule c.at) _ (placed.some within) refl
    (ap (λ (x : List ℕ). reported c.unit c.population v c.rule c.at ++ x) (line_told c v w is))

pub told_now : (c : CursorSeen) (v : Verdicts) → StandsWithin c → c.rule < length c.unit.rules → report_until c.unit c.population v (told_pairs c) ≡ reported c.unit c.population v c.rule c.at
told_now c v placed within = until_pair c.unit c.population v c.rule c.at within (placed.some within)

counted_now : (c : CursorSeen) (v : Verdicts) (w : Verdict) → StandsWithin c → c.rule < length c.unit.rules → IsToldBy c v → v c.rule (get_or (objects_due c) c.at 0) ≡ Some w
    → counted c.here w ≡ counts_of (map (v c.rule) (take (c.at + 1) (objects_due c)))
counted_now c v w placed within told is = counts_next (v c.rule) (objects_due c) c.at 0 w c.here (placed.some within) is told.here

-- where more objects of the rule are left
abbrev pub told_here : CursorSeen → Verdict → CursorSeen
told_here c w = cursor_seen c.unit c.population c.rule (c.at + 1) (counted c.here w) c.before

pub text_here : (c : CursorSeen) (w : Verdict) → c.at + 1 < length (objects_due c)
    → told_text c w ≡ line_of (Some w) (name_of c.unit c.rule) (object_at c.population (get_or (objects_due c) c.at 0)).id
text_here c w left =
    let line = line_of (Some w) (name_of c.unit c.rule) (object_at c.population (get_or (objects_due c) c.at 0)).id in
    let is : nat_lt (suc c.at) (length (objects_due c)) ≡ true = is_less (suc c.at) (length (objects_due c)) (omega (arith, left)) in
    ap (λ b. line ++ (if b then [] else ending_of_rule c w)) is ∙ append-nil line
  where
    is_less : (m n : ℕ) → m < n → nat_lt m n ≡ true
    is_less m n l = elim (leb_tells (suc m) n) [ inl t ↦ t.0 | inr t ↦ absurd (omega (arith, t.1, l)) ]

pub text_last : (c : CursorSeen) (w : Verdict) → c.at + 1 ≡ length (objects_due c)
    → told_text c w ≡ line_of (Some w) (name_of c.unit c.rule) (object_at c.population (get_or (objects_due c) c.at 0)).id ++ ending_of_rule c w
text_last c w last =
    let line = line_of (Some w) (name_of c.unit c.rule) (object_at c.population (get_or (objects_due c) c.at 0)).id in
    let is : nat_lt (suc c.at) (length (objects_due c)) ≡ false = isnt_less (suc c.at) (length (objects_due c)) (omega (arith, last)) in
    ap (λ b. line ++ (if b then [] else ending_of_rule c w)) is
  where
    isnt_less : (m n : ℕ) → n ≤ m → nat_lt m n ≡ false
    isnt_less m n l = elim (leb_tells (suc m) n) [ inl t ↦ absurd (omega (arith, t.1, l)) | inr t ↦ t.0 ]

pub more_here : (c : CursorSeen) (w : Verdict) (bytes : List ℕ) → StandsWithin c → c.rule < length c.unit.rules → c.at + 1 < length (objects_due c)
    → IsToldMore c w bytes (told_here c w) (bytes ++ told_text c w)
more_here c w bytes placed within left = record {
  unit = refl;
  population = refl;
  more = omega arith;
  told = λ v told is. record { here = counted_now c v w placed within told (verdict_here c v w placed within is); before = told.before };
  part = λ v told is.
      let here = verdict_here c v w placed within is in
      let next : suc (told_pairs c) ≡ length (pairs_of_rules c.unit c.population c.rule) + (c.at + 1) = omega arith in
      ap (λ (x : List ℕ). bytes ++ x)
      (text_here c w left
      ∙ part_from c.unit c.population v (told_pairs c) (reported c.unit c.population v c.rule c.at) _ (due_within c placed within) (told_now c v placed within)
      (ap (report_until c.unit c.population v) next ∙ until_pair c.unit c.population v c.rule (c.at + 1) within left ∙ sym (line_more c v w placed within here)));
}

-- where it was the last object of the rule
abbrev pub told_last : CursorSeen → Verdict → CursorSeen
told_last c w = cursor_seen c.unit c.population (next_rule c.unit c.population (c.rule + 1)) 0 (counts_of []) (counts_joined c.before (counted c.here w))

pub more_last : (c : CursorSeen) (w : Verdict) (bytes : List ℕ) → StandsWithin c → c.rule < length c.unit.rules → c.at + 1 ≡ length (objects_due c)
    → IsToldMore c w bytes (told_last c w) (bytes ++ told_text c w)
more_last c w bytes placed within last =
    let u = c.unit in
    let p = c.population in
    let from = c.rule + 1 in
    let one = plus_one c.rule in
    let is = next_is u p from (omega (arith, within)) in
    let total = counts_joined c.before (counted c.here w) in
    let pairs_from : suc (told_pairs c) ≡ length (pairs_of_rules u p from) = omega (arith, last, pairs_of_rule u p c.rule, ap (λ n. length (pairs_of_rules u p n)) one) in
    let v0 : Verdicts = λ r o. None in
    let many : length (pairs_of_rules u p from) ≡ length (pairs_of_rules u p (next_rule u p from)) =
    sym (as_many_pairs u p v0 from) ∙ ap length (sym (pairs_without u p v0 from (next_rule u p from) is.above is.none)) ∙ as_many_pairs u p v0 (next_rule u p from) in
    record {
      unit = refl;
      population = refl;
      more = omega (arith, pairs_from, many);
      told = λ v told is_due.
          let so = counts_at_end v told is_due in
          record { here = refl; before = so ∙ sym (ap counts_of (pairs_without u p v from (next_rule u p from) is.above is.none)) };
      part = λ v told is_due.
          let here = verdict_here c v w placed within is_due in
          let line = line_of (Some w) (name_of u c.rule) (object_at p (get_or (objects_due c) c.at 0)).id in
          let reported_now = reported u p v c.rule c.at in
          let rule_text : (reported_now ++ line) ++ rule_line_of (name_of u c.rule) (length (objects_due c)) (counted c.here w) ≡ reports_below u p v from =
          reports_more u p v c.rule (reports_below u p v c.rule) _ refl
          (report_is u p v c.rule (objects_due c) (c.at + 1) (name_of u c.rule) (counted c.here w) (reports_below u p v c.rule) (reported_now ++ line) _ refl last refl
          (counted_now c v w placed within told here) (line_more c v w placed within here) refl) in
          let between = lines_between u from (next_rule u p from) total in
          let ending : ending_of_rule c w ≡ rule_line_of (name_of u c.rule) (length (objects_due c)) (counted c.here w) ++ between =
          ap (λ n. rule_line_of (name_of u c.rule) (length (objects_due c)) (counted c.here w) ++ lines_between u n (next_rule u p n) total) (sym one) in
          let whole : report_until u p v (suc (told_pairs c)) ≡ reported_now ++ (line ++ ending_of_rule c w) =
          ap (report_until u p v) pairs_from ∙ until_between u p v from total (omega (arith, within)) (counts_at_end v told is_due)
          ∙ ap (λ (x : List ℕ). x ++ between) (sym rule_text)
          ∙ append_assoc (reported_now ++ line) (rule_line_of (name_of u c.rule) (length (objects_due c)) (counted c.here w)) between
          ∙ ap (λ (x : List ℕ). (reported_now ++ line) ++ x) (sym ending)
          ∙ append_assoc reported_now line (ending_of_rule c w) in
          ap (λ (x : List ℕ). bytes ++ x)
          (text_last c w last ∙ part_from u p v (told_pairs c) reported_now (line ++ ending_of_rule c w) (due_within c placed within) (told_now c v placed within) whole);
    }
  where
    counts_at_end : (v : Verdicts) → IsToldBy c v → verdict_due v (due c) ≡ Some w → counts_joined c.before (counted c.here w) ≡ counts_of (verdicts_below c.unit c.population v (c.rule + 1))
    counts_at_end v told is_due =
        let here = verdict_here c v w placed within is_due in
        rule_counted c.unit c.population v c.rule c.before (counted c.here w) told.before
        (counts_are c.unit c.population v c.rule (objects_due c) (c.at + 1) (counted c.here w) refl last (counted_now c v w placed within told here))

-- ---- what each cursor keeps

counted_one : (s : Summary) (w : Verdict) → all_counted (counted s w) ≡ suc (all_counted s)
counted_one s Holds = omega arith
counted_one s Fails = omega arith
counted_one s Undecided = omega arith

few_due : (c : CursorSeen) → IsConsistent c.population → length (objects_due c) ≤ MAX_OBJECTS
few_due c consistent = few_instances c.population (context_class c.population.model c.unit (unit_rule c.unit c.rule)) consistent

pub placed_here : (c : CursorSeen) (w : Verdict) → StandsWithin c → c.rule < length c.unit.rules → c.at + 1 < length (objects_due c) → StandsWithin (told_here c w)
placed_here c w placed within left = record {
  within = placed.within;
  some = λ h. left;
  none = λ e. absurd (omega (arith, e, within));
  few_here = omega (arith, placed.few_here, counted_one c.here w);
  few_before = placed.few_before;
  end_here = λ e. absurd (omega (arith, e, within));
}

joined_all : (s t : Summary) → all_counted (counts_joined s t) ≡ all_counted s + all_counted t
joined_all s t = omega arith

pub placed_last : (c : CursorSeen) (w : Verdict) → StandsWithin c → IsConsistent c.population → c.rule < length c.unit.rules → c.at + 1 ≡ length (objects_due c) → StandsWithin (told_last c w)
placed_last c w placed consistent within last =
    let is = next_is c.unit c.population (c.rule + 1) (omega (arith, within)) in
    let above = mul-le (c.rule + 1) MAX_OBJECTS (next_rule c.unit c.population (c.rule + 1)) MAX_OBJECTS is.above (omega arith) in
    record {
      within = omega (arith, is.within, within);
      some = λ h. is.some (omega (arith, h, within));
      none = λ e. refl;
      few_here = omega arith;
      few_before = omega (arith, above, placed.few_here, placed.few_before, last, few_due c consistent, joined_all c.before (counted c.here w), counted_one c.here w);
      end_here = λ e. refl;
    }

pub placed_first : (u : Content) (p : Population) → StandsWithin (cursor_seen u p (next_rule u p 0) 0 (counts_of []) (counts_of []))
placed_first u p =
    let is = next_is u p 0 (omega arith) in
    record {
      within = omega (arith, is.within);
      some = λ h. is.some (omega (arith, h));
      none = λ e. refl;
      few_here = omega arith;
      few_before = omega arith;
      end_here = λ e. refl;
    }

-- no count is large
pub few_here : (c : CursorSeen) → StandsWithin c → IsConsistent c.population → c.rule < length c.unit.rules → all_counted c.here < MAX_OBJECTS
few_here c placed consistent within = omega (arith, placed.few_here, placed.some within, few_due c consistent)

-- ---- the end

pub summary_is : (c : CursorSeen) (v : Verdicts) → StandsWithin c → due c ≡ None → IsToldBy c v → c.before ≡ counts_of (all_verdicts c.unit c.population v)
summary_is c v placed none told = told.before ∙ ap (λ n. counts_of (verdicts_below c.unit c.population v n)) (at_end c placed none)

-- ---- how long lines are

pub lengths_grow : (u : Content) (from m n : ℕ) → m ≤ n → length (lines_without u from m) ≤ length (lines_without u from n)
lengths_grow u from m zero l = let e : m ≡ zero = omega (arith, l) in subst (λ k. length (lines_without u from k) ≤ 0) (sym e) (omega arith)
lengths_grow u from m (suc n) l =
    elim (eq-or-lt_of_le l) [
      | inl e ↦ subst (λ k. length (lines_without u from k) ≤ length (lines_without u from (suc n))) (sym e) (omega arith)
      | inr g ↦ omega (arith, lengths_grow u from m n (omega (arith, g)), length-append (lines_without u from n) (rule_line_of (name_of u (from + n)) 0 (counts_of [])))
    ]

pub length_next : (u : Content) (from n : ℕ) → length (lines_without u from (suc n)) ≡ length (lines_without u from n) + length (rule_line_of (name_of u (from + n)) 0 (counts_of []))
length_next u from n = length-append (lines_without u from n) (rule_line_of (name_of u (from + n)) 0 (counts_of []))

-- one line more is put
pub lines_more : (u : Content) (from r : ℕ) (before here after : List ℕ) → from ≤ r → here ≡ before ++ lines_without u from (r - from) → after ≡ here ++ rule_line_of (name_of u r) 0 (counts_of [])
    → after ≡ before ++ lines_without u from (r + 1 - from)
lines_more u from r before here after l so next =
    let one : r + 1 - from ≡ suc (r - from) = omega (arith, l) in
    let at : from + (r - from) ≡ r = omega (arith, l) in
    next ∙ ap (λ (x : List ℕ). x ++ rule_line_of (name_of u r) 0 (counts_of [])) so
    ∙ append_assoc before (lines_without u from (r - from)) (rule_line_of (name_of u r) 0 (counts_of []))
    ∙ ap (λ (n : ℕ). before ++ (lines_without u from (r - from) ++ rule_line_of (name_of u n) 0 (counts_of []))) (sym at)
    ∙ ap (λ (n : ℕ). before ++ lines_without u from n) (sym one)

-- it fits where all lines do
pub line_fits : (u : Content) (from r next : ℕ) (s : Summary) → from ≤ r → r < next
    → length (lines_without u from (r - from)) + length (rule_line_of (name_of u r) 0 (counts_of [])) ≤ length (lines_between u from next s)
line_fits u from r next s l h =
    let at : from + (r - from) ≡ r = omega (arith, l) in
    let grows = lengths_grow u from (suc (r - from)) (next - from) (omega (arith, l, h)) in
    omega (
      arith,
      grows,
      length_next u from (r - from),
      ap (λ n. length (rule_line_of (name_of u n) 0 (counts_of []))) at,
      length-append (lines_without u from (next - from)) (total_at u next s),
    )

pub between_ended : (u : Content) (from next : ℕ) (s : Summary) → next ≡ length u.rules → lines_between u from next s ≡ lines_without u from (next - from) ++ total_line s
between_ended u from next s e = ap (λ (x : List ℕ). lines_without u from (next - from) ++ x) (total_there u next s e)

pub line_same : (u : Content) (r : ℕ) (name : List ℕ) (s : Summary) → name ≡ name_of u r → s ≡ counts_of [] → rule_line_of name 0 s ≡ rule_line_of (name_of u r) 0 (counts_of [])
line_same u r name s e f = ap (λ n. rule_line_of n 0 s) e ∙ ap (λ t. rule_line_of (name_of u r) 0 t) f

pub lengths_more : (u : Content) (from r here line : ℕ) → from ≤ r → here ≡ length (lines_without u from (r - from)) → line ≡ length (rule_line_of (name_of u r) 0 (counts_of []))
    → here + line ≡ length (lines_without u from (r + 1 - from))
lengths_more u from r here line l so is =
    let one : r + 1 - from ≡ suc (r - from) = omega (arith, l) in
    let at : from + (r - from) ≡ r = omega (arith, l) in
    omega (
      arith,
      so,
      is,
      length_next u from (r - from),
      ap (λ n. length (rule_line_of (name_of u n) 0 (counts_of []))) at,
      ap (λ n. length (lines_without u from n)) one,
    )

-- how long it is, where the rule's last object is told
pub told_length_last : (c : CursorSeen) (w : Verdict) (name id : List ℕ) (objects : ℕ) (here before : Summary) (next line rule_line between : ℕ) → c.at + 1 ≡ length (objects_due c)
    → name ≡ name_of c.unit c.rule → id ≡ (object_at c.population (get_or (objects_due c) c.at 0)).id → objects ≡ length (objects_due c)
    → here ≡ counted c.here w → before ≡ counts_joined c.before here → next ≡ next_rule c.unit c.population (c.rule + 1)
    → line ≡ length (line_of (Some w) name id) → rule_line ≡ length (rule_line_of name objects here) → between ≡ length (lines_between c.unit (c.rule + 1) next before)
    → line + rule_line + between ≡ length (told_text c w)
told_length_last c w name id objects here before next line rule_line between last en ei eo eh eb ex el er et =
    let u = c.unit in
    let p = c.population in
    let total = counts_joined c.before (counted c.here w) in
    let first = line_of (Some w) (name_of u c.rule) (object_at p (get_or (objects_due c) c.at 0)).id in
    let second = rule_line_of (name_of u c.rule) (length (objects_due c)) (counted c.here w) in
    let third = lines_between u (suc c.rule) (next_rule u p (suc c.rule)) total in
    let one : line ≡ length first = el ∙ ap (λ n. length (line_of (Some w) n id)) en ∙ ap (λ i. length (line_of (Some w) (name_of u c.rule) i)) ei in
    let two : rule_line ≡ length second = er ∙ ap (λ n. length (rule_line_of n objects here)) en ∙ ap (λ k. length (rule_line_of (name_of u c.rule) k here)) eo ∙ ap (λ t. length (rule_line_of (name_of u c.rule) (length (objects_due c)) t)) eh in
    let sums : before ≡ total = eb ∙ ap (counts_joined c.before) eh in
    let three : between ≡ length third = et ∙ ap (λ k. length (lines_between u (c.rule + 1) k before)) ex ∙ ap (λ t. length (lines_between u (c.rule + 1) (next_rule u p (c.rule + 1)) t)) sums ∙ ap (λ r. length (lines_between u r (next_rule u p r) total)) (plus_one c.rule) in
    omega (arith, one, two, three, ap length (text_last c w last), length-append first (ending_of_rule c w), length-append second third)

-- ---- the beginning

none_first : (u : Content) (p : Population) → length (pairs_of_rules u p (next_rule u p 0)) ≡ 0
none_first u p =
    let v : Verdicts = λ r o. None in
    let is = next_is u p 0 (omega arith) in
    sym (as_many_pairs u p v (next_rule u p 0)) ∙ ap length (pairs_without u p v 0 (next_rule u p 0) is.above is.none)

pub told_none : (u : Content) (p : Population) (r : ℕ) (s t : Summary) → r ≡ next_rule u p 0 → told_pairs (cursor_seen u p r 0 s t) ≡ 0
told_none u p r s t e = omega (arith, ap (λ n. length (pairs_of_rules u p n)) e, none_first u p)

pub told_first : (u : Content) (p : Population) (r : ℕ) (s t : Summary) (v : Verdicts) → r ≡ next_rule u p 0 → s ≡ counts_of [] → t ≡ counts_of [] → IsToldBy (cursor_seen u p r 0 s t) v
told_first u p r s t v e f g =
    let is = next_is u p 0 (omega arith) in
    record { here = f; before = g ∙ ap counts_of (sym (pairs_without u p v 0 (next_rule u p 0) is.above is.none)) ∙ ap (λ n. counts_of (verdicts_below u p v n)) (sym e) }

pub placed_at_first : (u : Content) (p : Population) (r : ℕ) (s t : Summary) → r ≡ next_rule u p 0 → s ≡ counts_of [] → t ≡ counts_of [] → StandsWithin (cursor_seen u p r 0 s t)
placed_at_first u p r s t e f g =
    subst (λ n. StandsWithin (cursor_seen u p n 0 s t)) (sym e) (subst (λ x. StandsWithin (cursor_seen u p (next_rule u p 0) 0 x t)) (sym f) (subst (λ x. StandsWithin (cursor_seen u p (next_rule u p 0) 0 (counts_of []) x)) (sym g) (placed_first u p)))

pub part_first : (u : Content) (p : Population) (r : ℕ) (t : Summary) (v : Verdicts) (before after : List ℕ) → r ≡ next_rule u p 0 → t ≡ counts_of [] → after ≡ before ++ lines_between u 0 r t → after ≡ before ++ part_of u p v 0
part_first u p r t v before after e g is =
    is ∙ ap (λ n. before ++ lines_between u 0 n t) e ∙ ap (λ x. before ++ lines_between u 0 (next_rule u p 0) x) g ∙ ap (λ (x : List ℕ). before ++ x) (first_part u p v)

-- ---- there is room for what is told

greatest : (c : CursorSeen) (w : Verdict) → length (told_text c w) ≤ max (length (told_text c Holds)) (max (length (told_text c Fails)) (length (told_text c Undecided)))
greatest c Holds = omega arith
greatest c Fails = omega arith
greatest c Undecided = omega arith

pub room_enough : (c : CursorSeen) (w : Verdict) → c.rule < length c.unit.rules → length (told_text c w) ≤ room_of c
room_enough c w within =
    elim (eqb_tells c.rule (length c.unit.rules)) [
      | inl t ↦ absurd (omega (arith, t.1, within))
      | inr t ↦ subst (λ b. length (told_text c w) ≤ (if b then 0 else greatest_told c)) (sym t.0) (greatest c w)
    ]

-- the text begins with the line of the object
pub line_in_text : (c : CursorSeen) (w : Verdict) → length (line_of (Some w) (name_of c.unit c.rule) (object_at c.population (get_or (objects_due c) c.at 0)).id) ≤ length (told_text c w)
line_in_text c w =
    omega (
      arith,
      length-append (line_of (Some w) (name_of c.unit c.rule) (object_at c.population (get_or (objects_due c) c.at 0)).id) (if nat_lt (suc c.at) (length (objects_due c)) then [] else ending_of_rule c w),
    )

-- the steps by which a rule's last object is told, each with its bytes
pub record LastTold (c : CursorSeen) (w : Verdict) (old line : List ℕ) (here before : Summary) (next : ℕ) : Type 0 where
  pub last : c.at + 1 ≡ length (objects_due c)
  pub line_is : line ≡ line_of (Some w) (name_of c.unit c.rule) (object_at c.population (get_or (objects_due c) c.at 0)).id
  pub here_is : here ≡ counted c.here w
  pub before_is : before ≡ counts_joined c.before here
  pub next_is : next ≡ next_rule c.unit c.population (c.rule + 1)

-- all three pieces are what is told
pub last_text : (c : CursorSeen) (w : Verdict) (old line : List ℕ) (here before : Summary) (next : ℕ) → LastTold c w old line here before next
    → ((old ++ line) ++ rule_line_of (name_of c.unit c.rule) (length (objects_due c)) here) ++ lines_between c.unit (c.rule + 1) next before ≡ old ++ told_text c w
last_text c w old line here before next t =
    let u = c.unit in
    let p = c.population in
    let one = plus_one c.rule in
    let rule_text = rule_line_of (name_of u c.rule) (length (objects_due c)) (counted c.here w) in
    let sums : before ≡ counts_joined c.before (counted c.here w) = t.before_is ∙ ap (counts_joined c.before) t.here_is in
    let between : lines_between u (c.rule + 1) next before ≡ lines_between u (suc c.rule) (next_rule u p (suc c.rule)) (counts_joined c.before (counted c.here w)) =
    ap (λ k. lines_between u (c.rule + 1) k before) t.next_is ∙ ap (λ x. lines_between u (c.rule + 1) (next_rule u p (c.rule + 1)) x) sums ∙ ap (λ r. lines_between u r (next_rule u p r) (counts_joined c.before (counted c.here w))) one in
    ap (λ (x : Summary). ((old ++ line) ++ rule_line_of (name_of u c.rule) (length (objects_due c)) x) ++ lines_between u (c.rule + 1) next before) t.here_is
    ∙ ap (λ (x : List ℕ). ((old ++ line) ++ rule_text) ++ x) between
    ∙ append_assoc (old ++ line) rule_text (lines_between u (suc c.rule) (next_rule u p (suc c.rule)) (counts_joined c.before (counted c.here w)))
    ∙ append_assoc old line (ending_of_rule c w)
    ∙ ap (λ (x : List ℕ). old ++ (x ++ ending_of_rule c w)) t.line_is
    ∙ ap (λ (x : List ℕ). old ++ x) (sym (text_last c w t.last))

pub here_text : (c : CursorSeen) (w : Verdict) (old line : List ℕ) → c.at + 1 < length (objects_due c) → line ≡ line_of (Some w) (name_of c.unit c.rule) (object_at c.population (get_or (objects_due c) c.at 0)).id
    → old ++ line ≡ old ++ told_text c w
here_text c w old line left is = ap (λ (x : List ℕ). old ++ x) (is ∙ sym (text_here c w left))

pub told_last_is : (c : CursorSeen) (w : Verdict) (bytes after : List ℕ) (here before : Summary) (next : ℕ) → StandsWithin c → c.rule < length c.unit.rules → c.at + 1 ≡ length (objects_due c)
    → here ≡ counts_of [] → before ≡ counts_joined c.before (counted c.here w) → next ≡ next_rule c.unit c.population (c.rule + 1) → after ≡ bytes ++ told_text c w
    → IsToldMore c w bytes (cursor_seen c.unit c.population next 0 here before) after
told_last_is c w bytes after here before next placed within last eh eb ex ea =
    subst (λ (x : List ℕ). IsToldMore c w bytes (cursor_seen c.unit c.population next 0 here before) x) (sym ea)
    (subst (λ n. IsToldMore c w bytes (cursor_seen c.unit c.population n 0 here before) (bytes ++ told_text c w)) (sym ex)
    (subst (λ s. IsToldMore c w bytes (cursor_seen c.unit c.population (next_rule c.unit c.population (c.rule + 1)) 0 s before) (bytes ++ told_text c w)) (sym eh)
    (subst (λ s. IsToldMore c w bytes (cursor_seen c.unit c.population (next_rule c.unit c.population (c.rule + 1)) 0 (counts_of []) s) (bytes ++ told_text c w)) (sym eb)
    (more_last c w bytes placed within last))))

pub told_here_is : (c : CursorSeen) (w : Verdict) (bytes after : List ℕ) (here : Summary) → StandsWithin c → c.rule < length c.unit.rules → c.at + 1 < length (objects_due c)
    → here ≡ counted c.here w → after ≡ bytes ++ told_text c w → IsToldMore c w bytes (cursor_seen c.unit c.population c.rule (c.at + 1) here c.before) after
told_here_is c w bytes after here placed within left eh ea =
    subst (λ (x : List ℕ). IsToldMore c w bytes (cursor_seen c.unit c.population c.rule (c.at + 1) here c.before) x) (sym ea)
    (subst (λ s. IsToldMore c w bytes (cursor_seen c.unit c.population c.rule (c.at + 1) s c.before) (bytes ++ told_text c w)) (sym eh) (more_here c w bytes placed within left))

pub placed_here_is : (c : CursorSeen) (w : Verdict) (here : Summary) → StandsWithin c → c.rule < length c.unit.rules → c.at + 1 < length (objects_due c) → here ≡ counted c.here w
    → StandsWithin (cursor_seen c.unit c.population c.rule (c.at + 1) here c.before)
placed_here_is c w here placed within left eh = subst (λ s. StandsWithin (cursor_seen c.unit c.population c.rule (c.at + 1) s c.before)) (sym eh) (placed_here c w placed within left)

pub placed_last_is : (c : CursorSeen) (w : Verdict) (none here before : Summary) (next : ℕ) → StandsWithin c → IsConsistent c.population → c.rule < length c.unit.rules → c.at + 1 ≡ length (objects_due c)
    → none ≡ counts_of [] → here ≡ counted c.here w → before ≡ counts_joined c.before here → next ≡ next_rule c.unit c.population (c.rule + 1)
    → StandsWithin (cursor_seen c.unit c.population next 0 none before)
placed_last_is c w none here before next placed consistent within last en eh eb ex =
    subst (λ n. StandsWithin (cursor_seen c.unit c.population n 0 none before)) (sym ex)
    (subst (λ s. StandsWithin (cursor_seen c.unit c.population (next_rule c.unit c.population (c.rule + 1)) 0 s before)) (sym en)
    (subst (λ s. StandsWithin (cursor_seen c.unit c.population (next_rule c.unit c.population (c.rule + 1)) 0 (counts_of []) s)) (sym (eb ∙ ap (counts_joined c.before) eh)) (placed_last c w placed consistent within last)))
