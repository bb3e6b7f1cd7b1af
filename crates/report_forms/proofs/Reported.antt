-- Reports are put together of their lines, and these are of words.
use Rattle.std.proofs.Common.{◌≡◌, ℕ, zero, suc, ◌<◌, ◌≤◌, true, List, [], ◌∷◌, ◌++◌, length, map, Some, refl, sym, ap, subst, ◌∙◌, append-nil, inl, inr, arith}
use Rattle.std.proofs.lemmas.Bool.Decides.{leb_tells}
use Rattle.std.specs.List.{AllByRecursion, flat_map}
use Rattle.std.proofs.lemmas.Grind.{flat_map-append}
use Rattle.std.proofs.lemmas.List.Folds.{flat_map-map}
use Rattle.std.proofs.lemmas.Option.{slice_get-get_or}
use Rattle.std.proofs.lemmas.List.{get_or_past}
use Rattle.ocl_base.specs.Words.{is_name}
use Rattle.imkl_population.specs.Population.{Population, object_at, no_object, instances}
use Rattle.imkl_population.specs.Consistency.{IsConsistent}
use Rattle.rule_code.specs.Content.{Content}
use Rattle.rule_code.specs.WellFormed.{IsUnit, RuleFits}
use Rattle.rule_code.proofs.ForAbove.{EachFits-at}
use Rattle.rule_verify.specs.UnitRules.{unit_rule}
use Rattle.ocl_core.specs.Core.{CheckedRule}
use Rattle.ocl_semantics.specs.Meaning.{meant_verdict}
use Rattle.rule_report.specs.Report.{Verdicts, context_objects, rule_verdicts, all_verdicts, counts_of, name_of, reports_below, report_of_rule, report_by}
use Rattle.ocl_check.specs.MeantReport.{meant_verdicts, meant_summary, meant_report, meant_report_of_rule}
use Rattle.report_forms.specs.ReportRows.{rows_in}
use Rattle.report_forms.specs.ReportLines.{ReportLine, OfObject, OfRule, OfAll, written_as_text, report_rows_of, lines_of_rule, report_lines_below, report_lines, meant_lines_of_rule, meant_lines}
use Rattle.report_forms.proofs.Words.{IsAbove}
use Rattle.report_forms.proofs.Bytes.{above_id, above_name}
use Rattle.report_forms.proofs.WordRows.{IsOfWords, lines_rows}

-- objects' lines, and one line more
texts_of : (f : ℕ → ReportLine) (os : List ℕ) (l : ReportLine)
    → flat_map (λ o. written_as_text (f o)) os ++ written_as_text l ≡ flat_map written_as_text (map f os ++ l ∷ [])
texts_of f os l = sym (flat_map-append written_as_text (map f os) (l ∷ []) ∙ ap (λ x. x ++ (written_as_text l ++ [])) (flat_map-map written_as_text f os)
    ∙ ap (λ x. flat_map (λ o. written_as_text (f o)) os ++ x) (append-nil (written_as_text l)))

-- lines and one more
one_more : (ls : List ReportLine) (l : ReportLine) (text : List ℕ) → text ≡ flat_map written_as_text ls → text ++ written_as_text l ≡ flat_map written_as_text (ls ++ l ∷ [])
one_more ls l text e = ap (λ x. x ++ written_as_text l) e
    ∙ sym (flat_map-append written_as_text ls (l ∷ []) ∙ ap (λ x. flat_map written_as_text ls ++ x) (append-nil (written_as_text l)))

-- what is reported of the first n rules
below_text : (u : Content) (p : Population) (v : Verdicts) (n : ℕ) → reports_below u p v n ≡ flat_map written_as_text (report_lines_below u p v n)
below_text u p v zero = refl
below_text u p v (suc r) =
    ap (λ x. x ++ report_of_rule u p v r) (below_text u p v r)
    ∙ ap (λ x. flat_map written_as_text (report_lines_below u p v r) ++ x) (texts_of (λ o. OfObject (v r o) (name_of u r) (object_at p o).id) (context_objects u p r) (OfRule (name_of u r) (length (context_objects u p r)) (counts_of (rule_verdicts u p v r))))
    ∙ sym (flat_map-append written_as_text (report_lines_below u p v r) (lines_of_rule u p v r))

-- the report
pub report_text : (u : Content) (p : Population) (v : Verdicts) → report_by u p v ≡ flat_map written_as_text (report_lines u p v)
report_text u p v = one_more (report_lines_below u p v (length u.rules)) (OfAll (counts_of (all_verdicts u p v))) _ (below_text u p v (length u.rules))

-- the id of any object, also of one that isn't there, whose id is empty
id_above : (p : Population) (o : ℕ) → IsConsistent p → IsAbove 32 (object_at p o).id
id_above p o h = elim (leb_tells (length p.objects) o) [
  | inl past ↦ subst (λ x. IsAbove 32 x.id) (sym (get_or_past p.objects o no_object past.1)) tt
  | inr here ↦ above_id (object_at p o).id (h.formed o here.1)
]

-- the name of a rule of a unit
name_above : (u : Content) (r : ℕ) → IsUnit u → r < length u.rules → IsAbove 32 (name_of u r)
name_above u r h lt =
    let fits = EachFits-at (RuleFits u.version u.texts u.symbols) [] u.rules r (unit_rule u r) (slice_get-get_or u.rules r _ lt) h.rules in
    above_name (name_of u r) fits.1.is_name

-- lines of words, put together
all_append : (xs ys : List ReportLine) → AllByRecursion IsOfWords xs → AllByRecursion IsOfWords ys → AllByRecursion IsOfWords (xs ++ ys)
all_append [] ys h k = k
all_append (x ∷ xs) ys h k = (h.0, all_append xs ys h.1 k)

-- a line for each object
all_objects : (f : ℕ → ReportLine) (os : List ℕ) → ((o : ℕ) → IsOfWords (f o)) → AllByRecursion IsOfWords (map f os)
all_objects f [] h = tt
all_objects f (o ∷ os) h = (h o, all_objects f os h)

-- the lines of the first n rules
below_words : (u : Content) (p : Population) (v : Verdicts) (n : ℕ) → IsUnit u → IsConsistent p → n ≤ length u.rules → AllByRecursion IsOfWords (report_lines_below u p v n)
below_words u p v zero unit whole within = tt
below_words u p v (suc r) unit whole within =
    let name = name_above u r unit (omega (arith, within)) in
    all_append (report_lines_below u p v r) (lines_of_rule u p v r) (below_words u p v r unit whole (omega (arith, within)))
    (all_append _ _ (all_objects (λ o. OfObject (v r o) (name_of u r) (object_at p o).id) (context_objects u p r) (λ o. (name, id_above p o whole))) (name, tt))

-- the rows of a report
pub report_rows : (u : Content) (p : Population) (v : Verdicts) → IsUnit u → IsConsistent p → rows_in (report_by u p v) ≡ report_rows_of (report_lines u p v)
report_rows u p v unit whole =
    ap rows_in (report_text u p v)
    ∙ lines_rows (report_lines u p v) (all_append _ _ (below_words u p v (length u.rules) unit whole (omega arith)) (tt, tt))

-- ---- the report that rules mean

-- what is reported of all rules
rules_text : (p : Population) (rs : List CheckedRule) → flat_map (meant_report_of_rule p) rs ≡ flat_map written_as_text (flat_map (meant_lines_of_rule p) rs)
rules_text p [] = refl
rules_text p (r ∷ rs) =
    ap (λ x. x ++ flat_map (meant_report_of_rule p) rs) (texts_of (λ o. OfObject (Some (meant_verdict p r o)) r.name (object_at p o).id) (instances p r.context) (OfRule r.name (length (instances p r.context)) (counts_of (meant_verdicts p r))))
    ∙ ap (λ x. flat_map written_as_text (meant_lines_of_rule p r) ++ x) (rules_text p rs)
    ∙ sym (flat_map-append written_as_text (meant_lines_of_rule p r) (flat_map (meant_lines_of_rule p) rs))

-- the report that they mean
pub meant_text : (p : Population) (rs : List CheckedRule) → meant_report p rs ≡ flat_map written_as_text (meant_lines p rs)
meant_text p rs = one_more (flat_map (meant_lines_of_rule p) rs) (OfAll (meant_summary p rs)) _ (rules_text p rs)

-- the lines of all rules
rules_words : (p : Population) (rs : List CheckedRule) → IsConsistent p → AllByRecursion (λ r. is_name r.name ≡ true) rs → AllByRecursion IsOfWords (flat_map (meant_lines_of_rule p) rs)
rules_words p [] whole names = tt
rules_words p (r ∷ rs) whole names =
    let name = above_name r.name names.0 in
    all_append (meant_lines_of_rule p r) _
    (all_append _ _ (all_objects (λ o. OfObject (Some (meant_verdict p r o)) r.name (object_at p o).id) (instances p r.context) (λ o. (name, id_above p o whole))) (name, tt))
    (rules_words p rs whole names.1)

-- its rows
pub meant_rows : (p : Population) (rs : List CheckedRule) → IsConsistent p → AllByRecursion (λ r. is_name r.name ≡ true) rs → rows_in (meant_report p rs) ≡ report_rows_of (meant_lines p rs)
meant_rows p rs whole names =
    ap rows_in (meant_text p rs)
    ∙ lines_rows (meant_lines p rs) (all_append _ _ (rules_words p rs whole names) (tt, tt))
