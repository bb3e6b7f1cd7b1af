-- A report cut before the line of a pair, and what is appended where one pair more is told.
use Rattle.std.proofs.Common.{◌≡◌, ℕ, zero, suc, ◌+◌, ◌<◌, ◌≤◌, List, [], ◌∷◌, ◌++◌, length, map, take, refl, sym, ap, ◌∙◌, subst, inl, inr, arith, append_assoc, length-append}
use Rattle.std.specs.List.{concat, flat_map}
use Rattle.std.proofs.lemmas.List.{append-nil, length-map, take_all, take-append-le, take-map}
use Rattle.std.proofs.lemmas.List.Folds.{concat-append}
use Rattle.std.proofs.Math.Nat.{add-suc, eq-or-lt_of_le}
use Rattle.std.proofs.Math.Seq.{take-suc, take-append-add}
use Rattle.imkl_population.specs.Population.{Population}
use Rattle.rule_code.specs.Content.{Content}
use Rattle.rule_report.specs.Report.{Verdicts, context_objects, rule_verdicts, verdicts_below, all_verdicts, counts_of, name_of, object_line, rule_line, rule_line_of, total_line, report_of_rule, reports_below, report_by, after_last, parts_below, report_parts}
use Rattle.rule_report.specs.Cursor.{pairs_of_rules, all_pairs, part_of, report_until, lines_without}
use Rattle.rule_report.proofs.Parts.{parts_of_pairs, parts_of_rules, concat-map, parts_are_the_report, one_part_for_each_pair}

-- ---- how many pairs and parts there are

abbrev pub pair : ℕ → ℕ → ℕ × ℕ
pair r o = (r, o)

pub as_many_pairs : (u : Content) (p : Population) (v : Verdicts) (n : ℕ) → length (verdicts_below u p v n) ≡ length (pairs_of_rules u p n)
as_many_pairs u p v zero = refl
as_many_pairs u p v (suc r) =
    omega (
      arith,
      as_many_pairs u p v r,
      length-append (verdicts_below u p v r) (rule_verdicts u p v r),
      length-append (pairs_of_rules u p r) (map (λ o. (r, o)) (context_objects u p r)),
      length-map (context_objects u p r) (v r),
      length-map (context_objects u p r) (λ (o : ℕ). pair r o),
    )

pub parts_there : (u : Content) (p : Population) (v : Verdicts) (n : ℕ) → length (parts_below u p v n) ≡ suc (length (pairs_of_rules u p n))
parts_there u p v n = parts_of_pairs u p v n ∙ ap suc (as_many_pairs u p v n)

pub pairs_of_rule : (u : Content) (p : Population) (r : ℕ) → length (pairs_of_rules u p (suc r)) ≡ length (pairs_of_rules u p r) + length (context_objects u p r)
pairs_of_rule u p r =
    omega (arith, length-append (pairs_of_rules u p r) (map (λ o. (r, o)) (context_objects u p r)), length-map (context_objects u p r) (λ (o : ℕ). pair r o))

-- ---- the parts before the last one stay

take-after_last : (n : ℕ) (ps : List (List ℕ)) (bytes : List ℕ) → n < length ps → take n (after_last ps bytes) ≡ take n ps
take-after_last n [] bytes h = absurd (omega (arith, h))
take-after_last zero (x ∷ []) bytes h = refl
take-after_last (suc n) (x ∷ []) bytes h = absurd (omega (arith, h))
take-after_last zero (x ∷ (y ∷ ys)) bytes h = refl
take-after_last (suc n) (x ∷ (y ∷ ys)) bytes h = ap (λ l. x ∷ l) (take-after_last n (y ∷ ys) bytes (omega (arith, h)))

-- the first m parts of the rules below r + 1, where there are more before the rule r
stays_next : (u : Content) (p : Population) (v : Verdicts) (r m : ℕ) → m < length (parts_below u p v r) → take m (parts_below u p v (suc r)) ≡ take m (parts_below u p v r)
stays_next u p v r m h =
    let lines = map (object_line u p v r) (context_objects u p r) in
    take-after_last m (parts_below u p v r ++ lines) (rule_line u p v r) (omega (arith, h, length-append (parts_below u p v r) lines))
    ∙ take-append-le m (parts_below u p v r) lines (omega (arith, h))

more_parts : (u : Content) (p : Population) (v : Verdicts) (r n : ℕ) → r ≤ n → length (parts_below u p v r) ≤ length (parts_below u p v n)
more_parts u p v r zero h = let e : r ≡ zero = omega (arith, h) in subst (λ k. length (parts_below u p v k) ≤ length (parts_below u p v zero)) (sym e) (omega arith)
more_parts u p v r (suc n) h =
    elim (eq-or-lt_of_le h) [
      | inl e ↦ subst (λ k. length (parts_below u p v k) ≤ length (parts_below u p v (suc n))) (sym e) (omega arith)
      | inr l ↦
          omega (arith, more_parts u p v r n (omega (arith, l)), parts_there u p v n, parts_there u p v (suc n), pairs_of_rule u p n)
    ]

stays : (u : Content) (p : Population) (v : Verdicts) (r n m : ℕ) → r ≤ n → m < length (parts_below u p v r) → take m (parts_below u p v n) ≡ take m (parts_below u p v r)
stays u p v r zero m h l = let e : zero ≡ r = omega (arith, h) in ap (λ k. take m (parts_below u p v k)) e
stays u p v r (suc n) m h l =
    elim (eq-or-lt_of_le h) [
      | inl e ↦ ap (λ k. take m (parts_below u p v k)) (sym e)
      | inr s ↦
          let below : r ≤ n = omega (arith, s) in
          stays_next u p v n m (omega (arith, l, more_parts u p v r n below)) ∙ stays u p v r n m below l
    ]

-- ---- the report cut before the line of a pair, and at its end

-- what is reported of the rules before one, and the lines of the first of its objects
abbrev pub reported : Content → Population → Verdicts → ℕ → ℕ → List ℕ
reported u p v r k = reports_below u p v r ++ flat_map (object_line u p v r) (take k (context_objects u p r))

pub until_pair : (u : Content) (p : Population) (v : Verdicts) (r k : ℕ) → r < length u.rules → k < length (context_objects u p r)
    → report_until u p v (length (pairs_of_rules u p r) + k) ≡ reported u p v r k
until_pair u p v r k within there =
    let os = context_objects u p r in
    let lines = map (object_line u p v r) os in
    let m = suc (length (pairs_of_rules u p r) + k) in
    let few : m < length (parts_below u p v (suc r)) = omega (arith, there, parts_there u p v (suc r), pairs_of_rule u p r) in
    let front : m ≡ length (parts_below u p v r) + k = omega (arith, parts_there u p v r) in
    let cut : take m (report_parts u p v) ≡ take m (parts_below u p v (suc r)) =
    take-after_last m (parts_below u p v (length u.rules)) (total_line (counts_of (all_verdicts u p v))) (omega (arith, few, more_parts u p v (suc r) (length u.rules) (omega (arith, within))))
    ∙ stays u p v (suc r) (length u.rules) m (omega (arith, within)) few in
    let here : take m (parts_below u p v (suc r)) ≡ parts_below u p v r ++ take k lines =
    take-after_last m (parts_below u p v r ++ lines) (rule_line u p v r) (omega (arith, there, parts_there u p v r, length-append (parts_below u p v r) lines, length-map os (object_line u p v r)))
    ∙ ap (λ n. take n (parts_below u p v r ++ lines)) front ∙ take-append-add (parts_below u p v r) lines k in
    ap concat (cut ∙ here) ∙ concat-append (parts_below u p v r) (take k lines)
    ∙ ap (λ (x : List ℕ). x ++ concat (take k lines)) (parts_of_rules u p v r)
    ∙ ap (λ (x : List ℕ). reports_below u p v r ++ x) (ap concat (take-map (object_line u p v r) k os) ∙ concat-map (object_line u p v r) (take k os))

-- where no pair is left it is whole
pub until_past : (u : Content) (p : Population) (v : Verdicts) (n : ℕ) → length (all_pairs u p) ≤ n → report_until u p v n ≡ report_by u p v
until_past u p v n h =
    ap concat (take_all (suc n) (report_parts u p v) (omega (arith, h, one_part_for_each_pair u p v, as_many_pairs u p v (length u.rules))))
    ∙ parts_are_the_report u p v

pub until_end : (u : Content) (p : Population) (v : Verdicts) → report_until u p v (length (all_pairs u p)) ≡ report_by u p v
until_end u p v = until_past u p v (length (all_pairs u p)) (omega arith)

-- one part more
pub until_next : (u : Content) (p : Population) (v : Verdicts) (n : ℕ) → n < length (all_pairs u p) → report_until u p v (suc n) ≡ report_until u p v n ++ part_of u p v (suc n)
until_next u p v n h =
    let ps = report_parts u p v in
    let there : suc n < length ps = omega (arith, h, one_part_for_each_pair u p v, as_many_pairs u p v (length u.rules)) in
    ap concat (take-suc ps (suc n) [] there) ∙ concat-append (take (suc n) ps) (part_of u p v (suc n) ∷ [])
    ∙ ap (λ (x : List ℕ). report_until u p v n ++ x) (append-nil (part_of u p v (suc n)))

-- the first part
pub until_first : (u : Content) (p : Population) (v : Verdicts) → report_until u p v 0 ≡ part_of u p v 0
until_first u p v =
    let ps = report_parts u p v in
    let there : 0 < length ps = omega (arith, one_part_for_each_pair u p v) in
    ap concat (take-suc ps 0 [] there) ∙ append-nil (part_of u p v 0)

-- ---- rules without objects

without_one : (u : Content) (p : Population) (v : Verdicts) (r : ℕ) → context_objects u p r ≡ [] → report_of_rule u p v r ≡ rule_line_of (name_of u r) 0 (counts_of [])
without_one u p v r none = rw none refl

pub reports_without : (u : Content) (p : Population) (v : Verdicts) (from many : ℕ) → ((n : ℕ) → from ≤ n → n < from + many → context_objects u p n ≡ [])
    → reports_below u p v (from + many) ≡ reports_below u p v from ++ lines_without u from many
reports_without u p v from zero none =
    let e : from + zero ≡ from = omega arith in
    ap (reports_below u p v) e ∙ sym (append-nil (reports_below u p v from))
reports_without u p v from (suc many) none =
    let before = reports_without u p v from many (λ n l h. none n l (omega (arith, h))) in
    ap (reports_below u p v) (add-suc from many)
    ∙ ap (λ (x : List ℕ). x ++ report_of_rule u p v (from + many)) before
    ∙ ap (λ (x : List ℕ). (reports_below u p v from ++ lines_without u from many) ++ x) (without_one u p v (from + many) (none (from + many) (omega arith) (omega arith)))
    ∙ append_assoc (reports_below u p v from) (lines_without u from many) (rule_line_of (name_of u (from + many)) 0 (counts_of []))

pub verdicts_without : (u : Content) (p : Population) (v : Verdicts) (from many : ℕ) → ((n : ℕ) → from ≤ n → n < from + many → context_objects u p n ≡ [])
    → verdicts_below u p v (from + many) ≡ verdicts_below u p v from
verdicts_without u p v from zero none =
    let e : from + zero ≡ from = omega arith in
    ap (verdicts_below u p v) e
verdicts_without u p v from (suc many) none =
    ap (verdicts_below u p v) (add-suc from many)
    ∙ ap (λ (os : List ℕ). verdicts_below u p v (from + many) ++ map (v (from + many)) os) (none (from + many) (omega arith) (omega arith))
    ∙ append-nil (verdicts_below u p v (from + many))
    ∙ verdicts_without u p v from many (λ n l h. none n l (omega (arith, h)))
