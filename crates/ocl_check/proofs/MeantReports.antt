-- The report of the machine's runs of compiled rules is the one that the rules mean.
use Rattle.std.proofs.Common.{◌≡◌, ℕ, suc, ◌<◌, List, [], ◌∷◌, ◌++◌, length, map, get_or, Option, Some, Ok, refl, sym, ap, ◌∙◌, subst, arith, append_assoc, length-append}
use Rattle.std.specs.Prelude.{slice_get}
use Rattle.std.specs.List.{flat_map}
use Rattle.std.proofs.lemmas.List.{append-nil}
use Rattle.std.proofs.lemmas.Grind.{flat_map-append}
use Rattle.std.proofs.lemmas.Option.{slice_get-get_or}
use Rattle.std.proofs.Math.Seq.{get_or-append_seam}
use Rattle.imkl_model.specs.WellFormed.{IsClassModel}
use Rattle.imkl_population.specs.Population.{Population, object_at, instances, is_instance, IsInstance}
use Rattle.imkl_population.specs.Consistency.{IsConsistent}
use Rattle.ocl_base.proofs.ForAbove.{places_below, places_pass}
use Rattle.ocl_core.specs.Core.{CheckedRule}
use Rattle.rule_code.specs.Content.{Content}
use Rattle.rule_code.specs.WellFormed.{IsUnit}
use Rattle.rule_machine.specs.Laws.{verdict_at}
use Rattle.rule_values.specs.declared.verdict.Verdict.{Verdict}
use Rattle.ocl_semantics.specs.Meaning.{meant_verdict}
use Rattle.ocl_compile.specs.Compiling.{compile_of}
use Rattle.ocl_compile.specs.CompileLaws.{AreTypedRules, KeepsRules}
use Rattle.ocl_compile.proofs.ForAbove.{compiled_keeps_rules, verdicts_are_meant}
use Rattle.rule_report.specs.Report.{instances_of, context_objects, rule_verdicts, verdicts_below, counts_of, line_of, name_of, object_line, rule_line_of, rule_line, total_line, report_of_rule, reports_below, report_of, summary_of}
use Rattle.ocl_check.specs.MeantReport.{meant_verdicts, meant_line, meant_report_of_rule, meant_summary, meant_report}

-- ---- lists

-- two functions that agree on a list give one list
map_on : {A B : Type 0} (f g : A → B) (xs : List A) → ((k : ℕ) (d : A) → k < length xs → f (get_or xs k d) ≡ g (get_or xs k d)) → map f xs ≡ map g xs
map_on f g [] same = refl
map_on f g (x ∷ xs) same =
    let first : f x ≡ g x = same 0 x (omega arith) in
    let rest : map f xs ≡ map g xs = map_on f g xs (λ k d lt. same (suc k) d (omega (arith, lt))) in
    ap (λ y. y ∷ map f xs) first ∙ ap (λ ys. g x ∷ ys) rest

-- and, where they give lists, these put together
flat_map_on : {A B : Type 0} (f g : A → List B) (xs : List A) → ((k : ℕ) (d : A) → k < length xs → f (get_or xs k d) ≡ g (get_or xs k d)) → flat_map f xs ≡ flat_map g xs
flat_map_on f g [] same = refl
flat_map_on f g (x ∷ xs) same =
    let first : f x ≡ g x = same 0 x (omega arith) in
    let rest : flat_map f xs ≡ flat_map g xs = flat_map_on f g xs (λ k d lt. same (suc k) d (omega (arith, lt))) in
    ap (λ y. y ++ flat_map f xs) first ∙ ap (λ ys. g x ++ ys) rest

-- what is put together number by number, for the elements of a list, is put together element by element
module _ {A B : Type 0} (below here : ℕ → List B) (g : A → List B) (xs : List A) where
  from_rest : (before after : List A) → xs ≡ before ++ after
      → ((n : ℕ) → below (suc n) ≡ below n ++ here n) → ((n : ℕ) (x : A) → slice_get xs n ≡ Some x → here n ≡ g x)
      → below (length before) ≡ flat_map g before → below (length xs) ≡ flat_map g xs
  from_rest before [] all next each done =
      let same : xs ≡ before = all ∙ append-nil before in subst (λ (l : List A). below (length l) ≡ flat_map g l) (sym same) done
  from_rest before (x ∷ after) all next each done =
      let at : slice_get xs (length before) ≡ Some x =
      ap (λ (l : List A). slice_get l (length before)) all
      ∙ slice_get-get_or (before ++ x ∷ after) (length before) x (omega (arith, length-append before (x ∷ after)))
      ∙ ap (λ (y : A). Some y) (get_or-append_seam before x after x) in
      let longer : length (before ++ x ∷ []) ≡ suc (length before) = omega (arith, length-append before (x ∷ [])) in
      let more : below (suc (length before)) ≡ flat_map g (before ++ x ∷ []) =
      next (length before) ∙ ap (λ (l : List B). l ++ here (length before)) done ∙ ap (λ (l : List B). flat_map g before ++ l) (each (length before) x at ∙ sym (append-nil (g x)))
      ∙ sym (flat_map-append g before (x ∷ [])) in
      from_rest (before ++ x ∷ []) after (all ∙ sym (append_assoc before (x ∷ []) after)) next each (ap below longer ∙ more)

-- ---- reports

module _ (p : Population) (rs : List CheckedRule) (u : Content) (model : IsClassModel p.model) (consistent : IsConsistent p) (typed : AreTypedRules p.model rs) (compiled : compile_of p.model rs ≡ Ok u) (unit : IsUnit u) where
  kept : KeepsRules p.model rs u
  kept = compiled_keeps_rules p.model rs u model typed compiled

  -- a rule of the unit, and the one that it is compiled from
  module _ (n : ℕ) (r : CheckedRule) (at : slice_get rs n ≡ Some r) where
    objects_are : context_objects u p n ≡ instances p r.context
    objects_are = ap (instances_of p) (kept.contexts n r at)

    verdict_is : (k d : ℕ) → k < length (instances p r.context) → verdict_at u p n (get_or (instances p r.context) k d) ≡ Some (meant_verdict p r (get_or (instances p r.context) k d))
    verdict_is k d lt =
        let o = get_or (instances p r.context) k d in
        let object : IsInstance p r.context o =
        (places_below (is_instance p r.context) (length p.objects) k d lt, places_pass (is_instance p r.context) (length p.objects) k d lt) in
        verdicts_are_meant rs u p n o r (record { model = model; population = consistent; typed = typed; compiled = compiled; unit = unit; rule = at; object = object })

    verdicts_are : rule_verdicts u p (verdict_at u p) n ≡ meant_verdicts p r
    verdicts_are =
        ap (map (verdict_at u p n)) objects_are
        ∙ map_on (verdict_at u p n) (λ o. Some (meant_verdict p r o)) (instances p r.context) verdict_is

    line_is : (o : ℕ) → verdict_at u p n o ≡ Some (meant_verdict p r o) → object_line u p (verdict_at u p) n o ≡ meant_line p r o
    line_is o same =
        ap (λ (v : Option Verdict). line_of v (name_of u n) (object_at p o).id) same
        ∙ ap (λ (name : List ℕ). line_of (Some (meant_verdict p r o)) name (object_at p o).id) (kept.names n r at)

    lines_are : flat_map (object_line u p (verdict_at u p) n) (context_objects u p n) ≡ flat_map (meant_line p r) (instances p r.context)
    lines_are =
        ap (flat_map (object_line u p (verdict_at u p) n)) objects_are
        ∙ flat_map_on (object_line u p (verdict_at u p) n) (meant_line p r) (instances p r.context)
        (λ k d lt. line_is (get_or (instances p r.context) k d) (verdict_is k d lt))

    own_line_is : rule_line u p (verdict_at u p) n ≡ rule_line_of r.name (length (instances p r.context)) (counts_of (meant_verdicts p r))
    own_line_is =
        ap (λ (name : List ℕ). rule_line_of name (length (context_objects u p n)) (counts_of (rule_verdicts u p (verdict_at u p) n))) (kept.names n r at)
        ∙ ap (λ (os : List ℕ). rule_line_of r.name (length os) (counts_of (rule_verdicts u p (verdict_at u p) n))) objects_are
        ∙ ap (λ (vs : List (Option Verdict)). rule_line_of r.name (length (instances p r.context)) (counts_of vs)) verdicts_are

    rule_is_meant : report_of_rule u p (verdict_at u p) n ≡ meant_report_of_rule p r
    rule_is_meant =
        ap (λ (l : List ℕ). l ++ rule_line u p (verdict_at u p) n) lines_are
        ∙ ap (λ (l : List ℕ). flat_map (meant_line p r) (instances p r.context) ++ l) own_line_is

  -- the summary of compiled rules counts the verdicts that are meant
  pub summary_is_meant : summary_of u p ≡ meant_summary p rs
  summary_is_meant =
      ap counts_of
      (ap (verdicts_below u p (verdict_at u p)) kept.count
      ∙ from_rest (verdicts_below u p (verdict_at u p)) (rule_verdicts u p (verdict_at u p)) (meant_verdicts p) rs [] rs refl (λ n. refl) verdicts_are refl)

  -- and their report is the one that is meant
  pub report_is_meant : report_of u p ≡ meant_report p rs
  report_is_meant =
      ap (λ (l : List ℕ). l ++ total_line (summary_of u p))
      (ap (reports_below u p (verdict_at u p)) kept.count
      ∙ from_rest (reports_below u p (verdict_at u p)) (report_of_rule u p (verdict_at u p)) (meant_report_of_rule p) rs [] rs refl (λ n. refl) rule_is_meant refl)
      ∙ ap (λ s. flat_map (meant_report_of_rule p) rs ++ total_line s) summary_is_meant
