-- The lines of a report: each is words with spaces between them, so its row is these words.
use Rattle.std.proofs.Common.{◌≡◌, ℕ, List, [], ◌∷◌, ◌++◌, codes, Some, None, refl, ap, sym, ◌∙◌, append_assoc}
use Rattle.std.specs.List.{AllByRecursion, join_with_byte, flat_map}
use Rattle.std.specs.Fmt.{decimal}
use Rattle.rule_values.specs.declared.verdict.Verdict.TheVariants.{Holds, Fails, Undecided}
use Rattle.report_forms.specs.ReportRows.{rows_in}
use Rattle.report_forms.specs.ReportLines.{ReportLine, OfObject, OfRule, OfAll, written_as_text, report_row, report_rows_of}
use Rattle.report_forms.proofs.Words.{IsAbove, line_first}
use Rattle.report_forms.proofs.Bytes.{above_literal, above_decimal}

-- names and ids have no space and no line feed
abbrev pub IsOfWords : ReportLine → Type 0
IsOfWords (OfObject verdict name id) = IsAbove 32 name × IsAbove 32 id
IsOfWords (OfRule name objects counts) = IsAbove 32 name
IsOfWords (OfAll counts) = Unit {0}

-- what stands before the line feed, as words
object_text : (word name id : List ℕ) → word ++ (32 ∷ (name ++ (32 ∷ (id ++ 10 ∷ [])))) ≡ join_with_byte 32 (word ∷ name ∷ id ∷ []) ++ 10 ∷ []
object_text word name id = simp append_assoc refl

-- the same of a rule's line, whose words and numbers these are
rule_text : (a name b n c h d f e u : List ℕ)
    → a ++ (32 ∷ (name ++ (32 ∷ (b ++ (32 ∷ (n ++ (32 ∷ (c ++ (32 ∷ (h ++ (32 ∷ (d ++ (32 ∷ (f ++ (32 ∷ (e ++ (32 ∷ (u ++ 10 ∷ []))))))))))))))))))
    ≡ join_with_byte 32 (a ∷ name ∷ b ∷ n ∷ c ∷ h ∷ d ∷ f ∷ e ∷ u ∷ []) ++ 10 ∷ []
rule_text a name b n c h d f e u = simp append_assoc refl

-- and of the last line
total_text : (a b f c u : List ℕ)
    → a ++ (32 ∷ (b ++ (32 ∷ (f ++ (32 ∷ (c ++ (32 ∷ (u ++ 10 ∷ [])))))))) ≡ join_with_byte 32 (a ∷ b ∷ f ∷ c ∷ u ∷ []) ++ 10 ∷ []
total_text a b f c u = simp append_assoc refl

-- a line, and what follows it
pub line_row : (l : ReportLine) (rest : List ℕ) → IsOfWords l → rows_in (written_as_text l ++ rest) ≡ report_row l ++ rows_in rest
line_row (OfObject None name id) rest h = refl
line_row (OfObject (Some Holds) name id) rest h = refl
line_row (OfObject (Some Fails) name id) rest h =
    ap (λ x. rows_in (x ++ rest)) (object_text (codes "fail") name id)
    ∙ line_first (codes "fail") (name ∷ id ∷ []) rest (above_literal (codes "fail") refl) (h.0, (h.1, tt))
line_row (OfObject (Some Undecided) name id) rest h =
    ap (λ x. rows_in (x ++ rest)) (object_text (codes "undecided") name id)
    ∙ line_first (codes "undecided") (name ∷ id ∷ []) rest (above_literal (codes "undecided") refl) (h.0, (h.1, tt))
line_row (OfRule name objects s) rest h =
    let n = decimal objects in let holds = decimal s.holds in let fails = decimal s.fails in let undecided = decimal s.undecided in
    ap (λ x. rows_in (x ++ rest)) (rule_text (codes "rule") name (codes "checked") n (codes "holds") holds (codes "fails") fails (codes "undecided") undecided)
    ∙ line_first (codes "rule") (name ∷ codes "checked" ∷ n ∷ codes "holds" ∷ holds ∷ codes "fails" ∷ fails ∷ codes "undecided" ∷ undecided ∷ []) rest (above_literal (codes "rule") refl)
    (h, (above_literal (codes "checked") refl, (above_decimal objects, (above_literal (codes "holds") refl, (above_decimal s.holds, (above_literal (codes "fails") refl, (above_decimal s.fails, (above_literal (codes "undecided") refl, (above_decimal s.undecided, tt)))))))))
line_row (OfAll s) rest h =
    let fails = decimal s.fails in let undecided = decimal s.undecided in
    ap (λ x. rows_in (x ++ rest)) (total_text (codes "total") (codes "fails") fails (codes "undecided") undecided)
    ∙ line_first (codes "total") (codes "fails" ∷ fails ∷ codes "undecided" ∷ undecided ∷ []) rest (above_literal (codes "total") refl)
    (above_literal (codes "fails") refl, (above_decimal s.fails, (above_literal (codes "undecided") refl, (above_decimal s.undecided, tt))))

-- all lines
pub lines_rows : (ls : List ReportLine) → AllByRecursion IsOfWords ls → rows_in (flat_map written_as_text ls) ≡ report_rows_of ls
lines_rows [] h = refl
lines_rows (l ∷ ls) h =
    line_row l (flat_map written_as_text ls) h.0 ∙ ap (λ x. report_row l ++ x) (lines_rows ls h.1) ∙ sym (append_assoc (report_row l) (flat_map report_row ls) (([] ∷ []) ∷ []))
