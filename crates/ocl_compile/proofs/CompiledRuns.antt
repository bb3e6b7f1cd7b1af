-- Runs of compiled rules end with what the rules mean.
use Rattle.std.proofs.Common.{◌≡◌, ℕ, zero, suc, ◌<◌, List, [], ◌∷◌, length, Option, Some, None, refl, sym, ap, ◌∙◌, subst}
use Rattle.std.specs.Prelude.{slice_get, unwrap_or}
use Rattle.std.specs.Option.{option_map}
use Rattle.std.specs.List.{AllByRecursion}
use Rattle.std.proofs.lemmas.List.{length-map}
use Rattle.std.proofs.lemmas.Option.{slice_get-map, slice_get_within, get_or_from_slice_get}
use Rattle.imkl_model.specs.ClassModel.{Model}
use Rattle.imkl_model.specs.WellFormed.{IsClassModel}
use Rattle.imkl_population.specs.Population.{Population, IsInstance}
use Rattle.ocl_core.specs.Core.{CheckedRule}
use Rattle.ocl_core.specs.Typing.{IsTypedRule}
use Rattle.rule_code.specs.Content.{Content, RuleContent, text_at}
use Rattle.rule_verify.specs.CodeTree.{CodeTree, End, code_tree}
use Rattle.rule_verify.specs.UnitRules.{unit_rule, empty_rule, context_class, IsAcceptedUnit}
use Rattle.rule_values.specs.Value.{object_value}
use Rattle.rule_machine.specs.Machine.{setting_of, configuration, run, start}
use Rattle.rule_machine.specs.Laws.{IsAcceptedRun, tree_of_rule, rule_bound, verdict_at}
use Rattle.rule_machine.proofs.ForAbove.{goes_on, within_bound, verdict_found}
use Rattle.ocl_semantics.specs.Meaning.{meaning, meant_verdict}
use Rattle.ocl_compile.specs.Numbering.{Numbering, rule_uses, rules_uses, numbering_of}
use Rattle.ocl_compile.specs.Translation.{rule_tree, translate_rule, translate_rules}
use Rattle.ocl_compile.specs.Compiling.{first_passed}
use Rattle.ocl_compile.specs.CompileLaws.{KeepsRules, CompiledKeepsRules, IsCompiledRun, CompiledIsAccepted, RunsEndWithMeaning, VerdictsAreMeant}
use Rattle.ocl_compile.specs.ResolvedUses.{AreUsesResolved}
use Rattle.ocl_compile.proofs.Resolved.{of_first, of_rest}
use Rattle.ocl_compile.proofs.Resolving.{rules_resolved}
use Rattle.ocl_compile.proofs.Compiled.{tree_reached}
use Rattle.ocl_compile.proofs.CompiledUnits.{compiled_is, rule_code_is, context_is, unit_accepted}

-- typed rules that compile are accepted
pub compiled_is_accepted : CompiledIsAccepted
compiled_is_accepted m rs u model typed compiled =
    let c = compiled_is (first_passed m rs [] rs) (translate_rules m rs) u compiled in
    subst (IsAcceptedUnit m) (sym c.1) (unit_accepted m model rs typed c.0)

-- of all rules, one has what each has
typed_at : (m : Model) (rs : List CheckedRule) (n : ℕ) (r : CheckedRule) → AllByRecursion (IsTypedRule m) rs → slice_get rs n ≡ Some r → IsTypedRule m r
typed_at m [] n r h e = cc
typed_at m (x ∷ rs) zero r h e = let same : x ≡ r = cc in subst (IsTypedRule m) same h.0
typed_at m (x ∷ rs) (suc n) r h e = typed_at m rs n r h.1 e

-- of the uses of all rules, those of one
pub resolved_at : (m : Model) (u : Content) (k : Numbering) (rs : List CheckedRule) (n : ℕ) (r : CheckedRule) → AreUsesResolved m u k (rules_uses m rs) → slice_get rs n ≡ Some r → AreUsesResolved m u k (rule_uses m r)
resolved_at m u k [] n r h e = cc
resolved_at m u k (x ∷ rs) zero r h e =
    let same : x ≡ r = cc in
    subst (λ (y : CheckedRule). AreUsesResolved m u k (rule_uses m y)) same (of_first m u k (rule_uses m x) (rules_uses m rs) h)
resolved_at m u k (x ∷ rs) (suc n) r h e = resolved_at m u k rs n r (of_rest m u k (rule_uses m x) (rules_uses m rs) h) e

-- the rule in a place of the unit of rules
module _ (m : Model) (model : IsClassModel m) (rs : List CheckedRule) (typed : AllByRecursion (IsTypedRule m) rs) (n : ℕ) (r : CheckedRule) (at : slice_get rs n ≡ Some r) where
  abbrev code : RuleContent
  code = translate_rule m (numbering_of m rs) r

  code_at : slice_get (translate_rules m rs).rules n ≡ Some code
  code_at = slice_get-map (translate_rule m (numbering_of m rs)) rs n ∙ ap (option_map (translate_rule m (numbering_of m rs))) at

  rule_is : unit_rule (translate_rules m rs) n ≡ code
  rule_is = get_or_from_slice_get (translate_rules m rs).rules n code empty_rule code_at

  inside : n < length (translate_rules m rs).rules
  inside = slice_get_within (translate_rules m rs).rules n code code_at

  resolved : AreUsesResolved m (translate_rules m rs) (numbering_of m rs) (rule_uses m r)
  resolved = resolved_at m (translate_rules m rs) (numbering_of m rs) rs n r (rules_resolved m model rs typed) at

  name_kept : text_at (translate_rules m rs).texts (unit_rule (translate_rules m rs) n).name ≡ r.name
  name_kept = ap (λ (x : RuleContent). text_at (translate_rules m rs).texts x.name) rule_is ∙ resolved.0

  context_kept : context_class m (translate_rules m rs) (unit_rule (translate_rules m rs) n) ≡ Some r.context
  context_kept = ap (context_class m (translate_rules m rs)) rule_is ∙ context_is m (translate_rules m rs) (numbering_of m rs) r resolved

  tree_is : tree_of_rule (translate_rules m rs) n ≡ rule_tree m (numbering_of m rs) r
  tree_is = ap (λ (x : RuleContent). code_tree x.code) rule_is ∙ rule_code_is m (numbering_of m rs) r

-- compiled rules keep their order, their names and their context classes
pub compiled_keeps_rules : CompiledKeepsRules
compiled_keeps_rules m rs u model typed compiled =
    let c = compiled_is (first_passed m rs [] rs) (translate_rules m rs) u compiled in
    subst (KeepsRules m rs) (sym c.1)
    (record { count = length-map rs (translate_rule m (numbering_of m rs)); names = name_kept m model rs typed; contexts = context_kept m model rs typed })

-- its runs
module _ (rs : List CheckedRule) (p : Population) (n o : ℕ) (r : CheckedRule) (h : IsCompiledRun rs (translate_rules p.model rs) p n r o) (none : first_passed p.model rs [] rs ≡ None) where
  abbrev m : Model
  m = p.model

  abbrev u : Content
  u = translate_rules p.model rs

  abbrev numbers : Numbering
  numbers = numbering_of p.model rs

  context : (setting_of u p n).context ≡ r.context
  context = ap (λ (c : Option ℕ). unwrap_or c 0) (context_kept m h.model rs h.typed n r h.rule)

  accepted_run : IsAcceptedRun u p n o
  accepted_run =
      record { model = h.model; population = h.population; unit = h.unit; accepted = unit_accepted m h.model rs h.typed none; rule = inside m h.model rs h.typed n r h.rule; object = subst (λ (c : ℕ). IsInstance p c o) (sym context) h.object }

  -- the run of a compiled rule ends with one operand, the meaning of its expression
  pub ends_with_meaning : (k : ℕ) × (run (setting_of u p n) k (start (tree_of_rule u n) o) ≡ Some (configuration [] (object_value o ∷ []) (meaning p r.tree (object_value o ∷ []) ∷ [])))
  ends_with_meaning =
      let typed = typed_at m rs n r h.typed h.rule in
      tree_reached (setting_of u p n) (start (tree_of_rule u n) o) (λ k c reached final. let d = goes_on u p n o k c accepted_run reached final in (d.0, d.1)) numbers r.tree _ typed.1.0 typed.1.1 (resolved m h.model rs h.typed n r h.rule).1.1 End [] (object_value o ∷ []) []
      (0, ap (λ (t : CodeTree). Some (start t o)) (tree_is m h.model rs h.typed n r h.rule))

  -- and its verdict is the one that is meant
  pub verdict_is_meant : verdict_at u p n o ≡ Some (meant_verdict p r o)
  verdict_is_meant =
      let e = ends_with_meaning in
      let d = configuration [] (object_value o ∷ []) (meaning p r.tree (object_value o ∷ []) ∷ []) in
      verdict_found u p n o accepted_run (rule_bound u p n) e.0 (start (tree_of_rule u n) o) d (meant_verdict p r o) e.1 refl (within_bound u p n o e.0 d accepted_run e.1)

-- the law: a run of compiled code ends with one operand, which is what the rule's expression means
pub runs_end_with_meaning : RunsEndWithMeaning
runs_end_with_meaning rs u p n o r h =
    let c = compiled_is (first_passed p.model rs [] rs) (translate_rules p.model rs) u h.compiled in
    subst (λ (v : Content). (k : ℕ) × (run (setting_of v p n) k (start (tree_of_rule v n) o) ≡ Some (configuration [] (object_value o ∷ []) (meaning p r.tree (object_value o ∷ []) ∷ [])))) (sym c.1)
    (ends_with_meaning rs p n o r (subst (λ (v : Content). IsCompiledRun rs v p n r o) c.1 h) c.0)

-- the law: the machine's verdict is the one that is meant
pub verdicts_are_meant : VerdictsAreMeant
verdicts_are_meant rs u p n o r h =
    let c = compiled_is (first_passed p.model rs [] rs) (translate_rules p.model rs) u h.compiled in
    subst (λ (v : Content). verdict_at v p n o ≡ Some (meant_verdict p r o)) (sym c.1)
    (verdict_is_meant rs p n o r (subst (λ (v : Content). IsCompiledRun rs v p n r o) c.1 h) c.0)
