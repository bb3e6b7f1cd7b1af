-- Units of typed rules that pass no limit are accepted.
use Rattle.std.proofs.Common.{◌≡◌, ℕ, zero, suc, ◌+◌, ◌≤◌, Bool, true, false, List, [], ◌∷◌, ◌++◌, map, length, Option, Some, None, Result, Ok, refl, sym, ap, ◌∙◌, arith, length-append, if◌then◌else◌}
use Rattle.std.specs.Prelude.{slice_get, nat_lt}
use Rattle.std.specs.List.{AllByRecursion}
use Rattle.std.proofs.lemmas.Bool.{ltb-false}
use Rattle.ocl_base.specs.Steps.{◌>>=◌, found, check}
use Rattle.imkl_model.specs.ClassModel.{Model}
use Rattle.imkl_model.specs.WellFormed.{IsClassModel}
use Rattle.ocl_kinds.specs.declared.kind.ScalarKind.TheVariants as element
use Rattle.ocl_kinds.specs.declared.kind.Kind.{Kind}
use Rattle.ocl_kinds.specs.declared.kind.Kind.TheVariants.{Scalar}
use Rattle.ocl_kinds.specs.Kinds.{fits}
use Rattle.ocl_kinds.proofs.ForAbove.{fits_itself, fits_along}
use Rattle.ocl_core.specs.Core.{CheckedRule}
use Rattle.ocl_core.specs.OperatorKinds.{truth_kind}
use Rattle.ocl_core.specs.Typing.{IsTypedRule}
use Rattle.rule_code.specs.Content.{Content}
use Rattle.rule_verify.specs.declared.named.Named.{Named}
use Rattle.rule_verify.specs.declared.depths.Depths.{Depths}
use Rattle.rule_verify.specs.declared.fault.VerifyFlaw.TheVariants as flaws
use Rattle.rule_verify.specs.CodeTree.{CodeTree, End, code_tree, instr_count}
use Rattle.ocl_base.specs.Lists.{variable_at}
use Rattle.rule_verify.specs.InstrKinds.{surroundings}
use Rattle.rule_verify.specs.declared.limits.TheConstants.{MAX_BLOCKS, MAX_OPERANDS}
use Rattle.rule_verify.specs.KindRules.{InstrFault, instr_fault, Enclosing, ended_with, rule_ends}
use Rattle.rule_verify.specs.Patterns.{a_boolean}
use Rattle.rule_verify.specs.Symbols.{class_in}
use Rattle.rule_verify.specs.UnitRules.{check_rule, check_rules, context_class, IsAcceptedUnit}
use Rattle.ocl_compile.specs.declared.fault.Limit.{Limit}
use Rattle.ocl_compile.specs.Numbering.{Numbering, rule_uses, rules_uses, numbering_of}
use Rattle.ocl_compile.specs.Translation.{rule_tree, translate_rule, translate_rules}
use Rattle.ocl_compile.specs.Compiling.{is_too_large, compiled_depths, limit_passed, LimitAt, or_later, first_passed, unless_passed}
use Rattle.ocl_compile.specs.ResolvedUses.{AreUsesResolved}
use Rattle.ocl_compile.proofs.Resolved.{of_first, of_rest}
use Rattle.ocl_compile.proofs.Flat.{tree_flat, translated_cut}
use Rattle.ocl_compile.proofs.Kinded.{Narrower}
use Rattle.ocl_compile.proofs.TreeKinds.{tree_past}
use Rattle.ocl_compile.proofs.Resolving.{rules_resolved}

-- ---- compiled units

-- what compiles passes no limit, and is the unit of the rules
pub compiled_is : {A : Type 0} (o : Option LimitAt) (u v : A) → unless_passed o u ≡ Ok v → (o ≡ None) × (v ≡ u)
compiled_is (Some l) u v e = cc
compiled_is None u v e = (refl, cc)

-- ---- one rule

-- no limit is passed: the depths are within theirs
within_depths : (large : Bool) (blocks operands : ℕ) (a b c : Limit) → (if large then Some a else (if nat_lt MAX_BLOCKS blocks then Some b else (if nat_lt MAX_OPERANDS operands then Some c else None))) ≡ None → (operands ≤ MAX_OPERANDS) × (blocks ≤ MAX_BLOCKS)
within_depths true blocks operands a b c e = cc
within_depths false blocks operands a b c e = by_blocks (nat_lt MAX_BLOCKS blocks) refl e
  where
    not_less : (x y : ℕ) → nat_lt x y ≡ false → y ≤ x
    not_less x y h = omega (arith, ltb-false x y h)

    by_operands : (t : Bool) → nat_lt MAX_OPERANDS operands ≡ t → (if t then Some c else None) ≡ None → operands ≤ MAX_OPERANDS
    by_operands true h e = cc
    by_operands false h e = not_less MAX_OPERANDS operands h

    by_blocks : (t : Bool) → nat_lt MAX_BLOCKS blocks ≡ t → (if t then Some b else (if nat_lt MAX_OPERANDS operands then Some c else None)) ≡ None → (operands ≤ MAX_OPERANDS) × (blocks ≤ MAX_BLOCKS)
    by_blocks true h e = cc
    by_blocks false h e = (by_operands (nat_lt MAX_OPERANDS operands) refl e, not_less MAX_BLOCKS blocks h)

-- the code of a rule is the tree that it was translated to
pub rule_code_is : (m : Model) (n : Numbering) (r : CheckedRule) → code_tree (translate_rule m n r).code ≡ rule_tree m n r
rule_code_is m n r = tree_flat (rule_tree m n r) (translated_cut m n r.tree End tt)

-- the context class of a rule stands under its number
pub context_is : (m : Model) (u : Content) (n : Numbering) (r : CheckedRule) → AreUsesResolved m u n (rule_uses m r) → context_class m u (translate_rule m n r) ≡ Some r.context
context_is m u n r h = ap (λ (o : Option Named). class_in o) h.1.0

-- the object is the one variable
one_variable : (m : Model) (k : Kind) → Narrower m (k ∷ []) (k ∷ [])
one_variable m k = record { count = refl; each = λ n j e. at n j e }
  where
    at : (n : ℕ) (j : Kind) → slice_get (k ∷ []) n ≡ Some j → (l : Kind) × (variable_at (k ∷ []) n ≡ Some l) × (fits m l j ≡ true)
    at zero j e = (k, refl, let same : k ≡ j = cc in ap (fits m k) (sym same) ∙ fits_itself m k)
    at (suc n) j e = cc

-- no limit is passed by a rule, nor by a later one
pub none_later : (i : ℕ) (o : Option Limit) (later : Option LimitAt) → or_later i o later ≡ None → (o ≡ None) × (later ≡ None)
none_later i (Some l) later e = cc
none_later i None later e = (refl, e)

module _ (m : Model) (all : List CheckedRule) where
  -- the code of a typed rule that passes no limit ends with a truth value
  rule_has_kinds : (before : List CheckedRule) (r : CheckedRule) → IsTypedRule m r → AreUsesResolved m (translate_rules m all) (numbering_of m all) (rule_uses m r) → limit_passed m all before r ≡ None
      → (k : Kind) × (rule_ends (surroundings m (translate_rules m all) (length before) r.context) (rule_tree m (numbering_of m all) r) ≡ Ok k)
  rule_has_kinds before r typed resolved none =
      let n = numbering_of m all in
      let s = surroundings m (translate_rules m all) (length before) r.context in
      let object = Scalar (element.Class r.context) in
      let e : Enclosing = record { variables = object ∷ []; covered = 0; open_blocks = 0 } in
      let d : Depths = record { operands = 0; variables = 1; blocks = 0 } in
      let deep = within_depths (is_too_large m all before r) (compiled_depths m all before r).blocks (compiled_depths m all before r).operands _ _ _ none in
      let p = tree_past s n r.tree (object ∷ []) typed.1.0 typed.1.1 refl resolved.1.1 End e d 0 [] (one_variable m object) (record { operands = refl; blocks = refl }) (record { operands = deep.0; blocks = deep.1 }) in
      let fit = fits_along m p.kind typed.1.0 truth_kind p.is_narrower typed.1.2 in
      let count = instr_count (rule_tree m n r) in (
        p.kind,
        ap (λ (o : Result (List Kind) InstrFault). o >>= ended_with s a_boolean count) p.after
            ∙ ap (λ (b : Bool). check b (instr_fault flaws.LeftOver s.rule count) >>= (λ _. Ok p.kind)) fit,
      )

  rule_checks : (before : List CheckedRule) (r : CheckedRule) → IsTypedRule m r → AreUsesResolved m (translate_rules m all) (numbering_of m all) (rule_uses m r) → limit_passed m all before r ≡ None
      → check_rule m (translate_rules m all) (length before) (translate_rule m (numbering_of m all) r) ≡ Ok tt
  rule_checks before r typed resolved none =
      let n = numbering_of m all in
      let u = translate_rules m all in
      let i = length before in
      let x = translate_rule m n r in
      let ends = rule_has_kinds before r typed resolved none in
      ap (λ (o : Option ℕ). found o (instr_fault flaws.NoSuchName i 0) >>= (λ c. rule_ends (surroundings m u i c) (code_tree x.code) >>= (λ k. Ok tt))) (context_is m u n r resolved)
      ∙ ap (λ (t : CodeTree). rule_ends (surroundings m u i r.context) t >>= (λ k. Ok tt)) (rule_code_is m n r)
      ∙ ap (λ (o : Result Kind InstrFault). o >>= (λ k. Ok tt)) ends.1

  -- ---- the rules in their order

  rules_check : (before rs : List CheckedRule) → AllByRecursion (IsTypedRule m) rs → AreUsesResolved m (translate_rules m all) (numbering_of m all) (rules_uses m rs) → first_passed m all before rs ≡ None
      → check_rules m (translate_rules m all) (length before) (map (translate_rule m (numbering_of m all)) rs) ≡ Ok tt
  rules_check before [] typed resolved none = refl
  rules_check before (r ∷ rs) typed resolved none =
      let n = numbering_of m all in
      let u = translate_rules m all in
      let h = none_later (length before) (limit_passed m all before r) (first_passed m all (before ++ r ∷ []) rs) none in
      let here = rule_checks before r typed.0 (of_first m u n (rule_uses m r) (rules_uses m rs) resolved) h.0 in
      let one : length (before ++ r ∷ []) ≡ length before + 1 = length-append before (r ∷ []) in
      let later = rules_check (before ++ r ∷ []) rs typed.1 (of_rest m u n (rule_uses m r) (rules_uses m rs) resolved) h.1 in
      ap (λ (o : Result (Unit {0}) InstrFault). o >>= (λ z. check_rules m u (length before + 1) (map (translate_rule m n) rs))) here
      ∙ ap (λ (i : ℕ). check_rules m u i (map (translate_rule m n) rs)) (sym one)
      ∙ later

-- the unit of typed rules that pass no limit is accepted
pub unit_accepted : (m : Model) → IsClassModel m → (rs : List CheckedRule) → AllByRecursion (IsTypedRule m) rs → first_passed m rs [] rs ≡ None → IsAcceptedUnit m (translate_rules m rs)
unit_accepted m model rs typed none = rules_check m rs [] rs typed (rules_resolved m model rs typed) none
