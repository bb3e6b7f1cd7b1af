-- A report that is written as it goes.
use Rattle.std.proofs.Common.{◌≡◌, ℕ, suc, ◌+◌, ◌-◌, ◌<◌, min, List, [], ◌++◌, length, get_or, take, drop, inl, inr, Option, Some, None, sym, ap, ◌∙◌, subst, arith, append_assoc}
use Rattle.std.specs.List.{concat}
use Rattle.std.specs.Io.KnownBytes.{Appends}
use Rattle.std.proofs.KnownBytes.{Appends-trans}
use Rattle.std.proofs.lemmas.List.{take-append-drop, take-append-le, take_min, append-nil}
use Rattle.std.proofs.Math.Seq.{take-append-add}
use Rattle.imkl_population.specs.Population.{Population}
use Rattle.rule_code.specs.Content.{Content}
use Rattle.rule_report.specs.Report.{Verdicts, report_by, report_parts}
use Rattle.rule_report.specs.Sink.{WritesPrefix, IsWrittenSoFar}
use Rattle.rule_machine.specs.Laws.{verdict_at}
use Rattle.rule_report.specs.Cursor.{CursorSeen, told_pairs, all_pairs, due, IsToldBy, part_of, report_until}
use Rattle.rule_report.specs.Pieces.{IsReportedMore}
use Rattle.rule_report.proofs.Told.{until_next, until_past}
use Rattle.rule_report.proofs.Parts.{parts_are_the_report}
use Rattle.std.proofs.lemmas.List.Folds.{concat-append}
use Rattle.std.proofs.lemmas.Bool.{cases_lt}
use Rattle.std.proofs.lemmas.Option.{slice_get_within, slice_get-get_or}

-- the report up to a pair begins the report
until_begins : (u : Content) (p : Population) (v : Verdicts) (n : ℕ) → report_by u p v ≡ report_until u p v n ++ concat (drop (suc n) (report_parts u p v))
until_begins u p v n =
    let ps = report_parts u p v in
    sym (parts_are_the_report u p v) ∙ ap concat (sym (take-append-drop (suc n) ps)) ∙ concat-append (take (suc n) ps) (drop (suc n) ps)

-- more waits
pub written_more : (old new : Option (List ℕ)) (waiting told part more_waiting more_told : List ℕ) → IsWrittenSoFar old new waiting told
    → more_waiting ≡ waiting ++ part → more_told ≡ told ++ part → IsWrittenSoFar old new more_waiting more_told
written_more old new waiting told part more_waiting more_told so w t =
    (so.0, so.1, ap (λ (x : List ℕ). so.0 ++ x) w ∙ sym (append_assoc so.0 waiting part) ∙ ap (λ (x : List ℕ). x ++ part) so.2 ∙ sym t)

-- some of what waited is written
pub written_on : (old mid new : Option (List ℕ)) (still waiting told : List ℕ) → IsWrittenSoFar old mid waiting told → IsWrittenSoFar mid new still waiting → IsWrittenSoFar old new still told
written_on old mid new still waiting told so on =
    (so.0 ++ on.0, Appends-trans old mid new so.0 on.0 so.1 on.1, append_assoc so.0 on.0 still ∙ ap (λ (x : List ℕ). so.0 ++ x) on.2 ∙ so.2)

-- what is told is all, and is written
pub written_all : (old mid new : Option (List ℕ)) (waiting told : List ℕ) → IsWrittenSoFar old mid waiting told → Appends mid new waiting → Appends old new told
written_all old mid new waiting told so now = subst (λ (x : List ℕ). Appends old new x) so.2 (Appends-trans old mid new so.0 waiting so.1 now)

-- what was written is a prefix of the report, also where a write took only some of what waited
pub written_prefix : (u : Content) (p : Population) (v : Verdicts) (n : ℕ) (old mid new : Option (List ℕ)) (waiting : List ℕ) → IsWrittenSoFar old mid waiting (report_until u p v n)
    → WritesPrefix mid new waiting → WritesPrefix old new (report_by u p v)
written_prefix u p v n old mid new waiting so some =
    let rest = concat (drop (suc n) (report_parts u p v)) in
    let k = min some.0 (length waiting) in
    let whole : report_by u p v ≡ so.0 ++ (waiting ++ rest) = until_begins u p v n ∙ ap (λ (x : List ℕ). x ++ rest) (sym so.2) ∙ append_assoc so.0 waiting rest in
    let cut : take (length so.0 + k) (report_by u p v) ≡ so.0 ++ take some.0 waiting =
    ap (take (length so.0 + k)) whole ∙ take-append-add so.0 (waiting ++ rest) k
    ∙ ap (λ (x : List ℕ). so.0 ++ x) (take-append-le k waiting rest (omega arith) ∙ take_min some.0 waiting) in
    (length so.0 + k, subst (λ (x : List ℕ). Appends old new x) (sym cut) (Appends-trans old mid new so.0 (take some.0 waiting) so.1 some.1))

-- nothing more is written
pub written_stops : (u : Content) (p : Population) (v : Verdicts) (n : ℕ) (old new : Option (List ℕ)) (waiting : List ℕ) → Appends new new [] → IsWrittenSoFar old new waiting (report_until u p v n)
    → WritesPrefix old new (report_by u p v)
written_stops u p v n old new waiting same so = written_prefix u p v n old new new waiting so (0, same)

pub appends_none : (o : Option (List ℕ)) → Appends o o []
appends_none None = tt
appends_none (Some xs) = sym (append-nil xs)

-- ---- pair after pair

-- each pair that is told brings the end nearer
pub nearer : (old new : CursorSeen) (q : ℕ × ℕ) → due old ≡ Some q → new.unit ≡ old.unit → new.population ≡ old.population → told_pairs new ≡ suc (told_pairs old)
    → length (all_pairs new.unit new.population) - told_pairs new < length (all_pairs old.unit old.population) - told_pairs old
nearer old new q e unit population more =
    let there = slice_get_within (all_pairs old.unit old.population) (told_pairs old) q e in
    let same : length (all_pairs new.unit new.population) ≡ length (all_pairs old.unit old.population) =
    ap (λ u. length (all_pairs u new.population)) unit ∙ ap (λ p. length (all_pairs old.unit p)) population in
    omega (arith, there, same, more)

-- one pair more, by the verdicts of a unit and a population that are named
pub told_more : (u : Content) (p : Population) (old new : CursorSeen) (old_bytes new_bytes : List ℕ) → old.unit ≡ u → old.population ≡ p → IsReportedMore old old_bytes new new_bytes → IsToldBy old (verdict_at u p)
    → IsToldBy new (verdict_at u p) × (new_bytes ≡ old_bytes ++ part_of u p (verdict_at u p) (suc (told_pairs old)))
told_more u p old new old_bytes new_bytes eu ep more =
    let P : Content → Population → Type 0 = λ x q. IsToldBy old (verdict_at x q)
    → IsToldBy new (verdict_at x q) × (new_bytes ≡ old_bytes ++ part_of x q (verdict_at x q) (suc (told_pairs old))) in
    subst (λ x. P x p) eu (subst (λ q. P old.unit q) ep (λ told. (more.told told, more.part told)))

-- what is written and waits, after one pair more
pub written_pair : (u : Content) (p : Population) (old new : CursorSeen) (q : ℕ × ℕ) (first mid last : Option (List ℕ)) (waiting more_waiting still : List ℕ)
    → old.unit ≡ u → old.population ≡ p → due old ≡ Some q → told_pairs new ≡ suc (told_pairs old)
    → IsWrittenSoFar first mid waiting (report_until u p (verdict_at u p) (told_pairs old))
    → more_waiting ≡ waiting ++ part_of u p (verdict_at u p) (suc (told_pairs old))
    → IsWrittenSoFar mid last still more_waiting
    → IsWrittenSoFar first last still (report_until u p (verdict_at u p) (told_pairs new))
written_pair u p old new q first mid last waiting more_waiting still eu ep e more so text now =
    let v = verdict_at u p in
    let n = told_pairs old in
    let same : length (all_pairs old.unit old.population) ≡ length (all_pairs u p) =
    ap (λ x. length (all_pairs x old.population)) eu ∙ ap (λ y. length (all_pairs u y)) ep in
    let there : n < length (all_pairs u p) = omega (arith, slice_get_within (all_pairs old.unit old.population) n q e, same) in
    let next : report_until u p v (told_pairs new) ≡ report_until u p v n ++ part_of u p v (suc n) = ap (report_until u p v) more ∙ until_next u p v n there in
    written_on first mid last still more_waiting (report_until u p v (told_pairs new)) (written_more first mid waiting (report_until u p v n) (part_of u p v (suc n)) more_waiting (report_until u p v (told_pairs new)) so text next) now

-- a write that took some of what waits after one pair more
pub written_waiting : (u : Content) (p : Population) (old new : CursorSeen) (q : ℕ × ℕ) (first mid last : Option (List ℕ)) (waiting more_waiting : List ℕ)
    → old.unit ≡ u → old.population ≡ p → due old ≡ Some q → IsReportedMore old waiting new more_waiting → IsToldBy old (verdict_at u p)
    → IsWrittenSoFar first mid waiting (report_until u p (verdict_at u p) (told_pairs old))
    → WritesPrefix mid last more_waiting
    → WritesPrefix first last (report_by u p (verdict_at u p))
written_waiting u p old new q first mid last waiting more_waiting eu ep e more told so some =
    let v = verdict_at u p in
    let n = told_pairs old in
    let same : length (all_pairs old.unit old.population) ≡ length (all_pairs u p) =
    ap (λ x. length (all_pairs x old.population)) eu ∙ ap (λ y. length (all_pairs u y)) ep in
    let there : n < length (all_pairs u p) = omega (arith, slice_get_within (all_pairs old.unit old.population) n q e, same) in
    let part = (told_more u p old new waiting more_waiting eu ep more told).1 in
    written_prefix u p v (suc n) first mid last more_waiting
    (written_more first mid waiting (report_until u p v n) (part_of u p v (suc n)) more_waiting (report_until u p v (suc n)) so part (until_next u p v n there)) some

-- where no pair is due, all is told
pub all_told : (u : Content) (p : Population) (v : Verdicts) (c : CursorSeen) (o : Option (ℕ × ℕ)) → c.unit ≡ u → c.population ≡ p → o ≡ due c → ((q : ℕ × ℕ) → o ≡ Some q → ⊥)
    → report_until u p v (told_pairs c) ≡ report_by u p v
all_told u p v c o eu ep is_due none =
    let same : length (all_pairs c.unit c.population) ≡ length (all_pairs u p) =
    ap (λ x. length (all_pairs x c.population)) eu ∙ ap (λ y. length (all_pairs u y)) ep in
    elim (cases_lt (told_pairs c) (length (all_pairs c.unit c.population))) [
      | inl l ↦ absurd (none (get_or (all_pairs c.unit c.population) (told_pairs c) (0, 0)) (is_due ∙ slice_get-get_or (all_pairs c.unit c.population) (told_pairs c) (0, 0) l))
      | inr g ↦ until_past u p v (told_pairs c) (omega (arith, g, same))
    ]
