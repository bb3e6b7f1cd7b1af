-- The rules of a unit, and what is known where they are accepted.
use Rattle.std.proofs.Common.{◌≡◌, ℕ, zero, suc, ◌+◌, ◌-◌, ◌<◌, ◌≤◌, List, [], ◌∷◌, ◌++◌, length, get_or, drop, Result, Ok, Err, Option, Some, None, refl, sym, ap, ◌∙◌, subst, arith, append_assoc, zero-add}
use Rattle.std.specs.Prelude.{slice_get, slice_range, unwrap_or}
use Rattle.std.proofs.lemmas.List.{drop_more, drop_all, take_all}
use Rattle.std.proofs.lemmas.Option.{get_or_from_slice_get}
use Rattle.std.proofs.Math.Nat.{zero-max}
use Rattle.imkl_model.specs.ClassModel.{Model}
use Rattle.ocl_base.specs.Steps.{◌>>=◌, found, Fails}
use Rattle.ocl_base.proofs.ForAbove.{both_steps, found_is}
use Rattle.ocl_kinds.specs.declared.kind.Kind.{Kind}
use Rattle.ocl_kinds.specs.declared.kind.Kind.TheVariants.{Scalar}
use Rattle.ocl_kinds.specs.declared.kind.ScalarKind.TheVariants as element
use Rattle.rule_code.specs.declared.instruction.Instr.{Instr}
use Rattle.rule_code.specs.Content.{Content, RuleContent}
use Rattle.rule_verify.specs.declared.fault.VerifyFlaw.TheVariants as flaws
use Rattle.rule_verify.specs.declared.fault.VerifyFault.{VerifyFault}
use Rattle.rule_verify.specs.declared.fault.VerifyFault.TheVariants.{At, OutOfMemory}
use Rattle.rule_verify.specs.declared.code.RuleCode.{RuleCode}
use Rattle.rule_verify.specs.declared.depths.Depths.{Depths}
use Rattle.rule_verify.specs.declared.place.Place.{Place}
use Rattle.rule_verify.specs.CodeTree.{CodeTree, code_tree}
use Rattle.rule_verify.specs.CodeDepths.{deeper, rule_depths}
use Rattle.rule_verify.specs.Faults.{verify_fault}
use Rattle.rule_verify.specs.InstrKinds.{surroundings}
use Rattle.rule_verify.specs.KindRules.{InstrFault, instr_fault, kinds_after, ended_with, rule_ends}
use Rattle.rule_verify.specs.Patterns.{a_boolean}
use Rattle.rule_verify.specs.Symbols.{named_at, class_in}
use Rattle.rule_verify.specs.UnitRules.{empty_rule, unit_rule, context_class, check_rule, check_rules, check_unit, IsAcceptedUnit, depths_of, depths_of_rules}
use Rattle.rule_verify.specs.Walk.{surroundings_of, kinds_from, depths_from, Walked}
use Rattle.rule_verify.proofs.Stretches.{code_tree_count}

-- ---- one rule

-- the rule of an index is the one that the unit has there
pub rule_is : (v u : Content) (n : ℕ) (x : RuleContent) → u ≡ v → slice_get u.rules n ≡ Some x → unit_rule v n ≡ x
rule_is v u n x same is = ap (λ (w : Content). unit_rule w n) (sym same) ∙ get_or_from_slice_get u.rules n x empty_rule is

-- a rule without a context class
pub no_context : (m : Model) (v u : Content) (n : ℕ) (x : RuleContent) → u ≡ v → slice_get u.rules n ≡ Some x → class_in (named_at m v x.context) ≡ None → check_rule m v n (unit_rule v n) ≡ Err (instr_fault flaws.NoSuchName n 0)
no_context m v u n x same is none =
    ap (check_rule m v n) (rule_is v u n x same is)
    ∙ ap (λ (o : Option ℕ). found o (instr_fault flaws.NoSuchName n 0) >>= (λ c. rule_ends (surroundings m v n c) (code_tree x.code) >>= (λ k. Ok tt))) none

-- a rule whose code is walked
module _ (r : RuleCode) (vars : List Kind) (end : ℕ) (u : Content) (x : RuleContent) (begins : vars ≡ Scalar (element.Class r.context) ∷ []) (whole : end ≡ length r.code.now) (same : u ≡ r.resolved.now.unit) (is : slice_get u.rules r.index ≡ Some x)
    (code : r.code.now ≡ x.code) (context : Some r.context ≡ class_in (named_at r.resolved.now.model r.resolved.now.unit x.context)) where
  abbrev first : Place
  first = record { at = 0; end = end; covered = 0; open_blocks = 0 }

  its_tree : code_tree (slice_range r.code.now 0 end) ≡ code_tree x.code
  its_tree = ap code_tree (take_all (end - 0) r.code.now (omega arith) ∙ code)

  rule_checks : check_rule r.resolved.now.model r.resolved.now.unit r.index (unit_rule r.resolved.now.unit r.index) ≡ (kinds_from r vars first [] >>= (λ ks. ended_with (surroundings_of r) a_boolean end ks >>= (λ k. Ok tt)))
  rule_checks =
      let m = r.resolved.now.model in
      let v = r.resolved.now.unit in
      let s = surroundings_of r in
      let F : Option ℕ → Result (Unit {0}) InstrFault = λ o. found o (instr_fault flaws.NoSuchName r.index 0) >>= (λ c. rule_ends (surroundings m v r.index c) (code_tree x.code) >>= (λ k. Ok tt)) in
      let G : CodeTree → List Kind → ℕ → Result (Unit {0}) InstrFault = λ t vs n. (kinds_after s t (record { variables = vs; covered = 0; open_blocks = 0 }) 0 [] >>= ended_with s a_boolean n) >>= (λ k. Ok tt) in
      let K : Result (List Kind) InstrFault = kinds_from r vars first [] in
      ap (check_rule m v r.index) (rule_is v u r.index x same is)
      ∙ ap F (sym context)
      ∙ ap (λ (n : ℕ). G (code_tree x.code) (Scalar (element.Class r.context) ∷ []) n) (code_tree_count x.code ∙ ap (λ (l : List Instr). length l) (sym code) ∙ sym whole)
      ∙ ap (λ (vs : List Kind). G (code_tree x.code) vs end) (sym begins)
      ∙ ap (λ (t : CodeTree). G t vars end) (sym its_tree)
      ∙ two_last K (ended_with s a_boolean end) (λ k. Ok tt)
    where
      two_last : {A B C E : Type 0} (r : Result A E) (f : A → Result B E) (g : B → Result C E) → ((r >>= f) >>= g) ≡ (r >>= (λ x. f x >>= g))
      two_last (Ok x) f g = refl
      two_last (Err e) f g = refl

  -- a fault of the code is the fault of the rule
  pub code_wrong : (e : VerifyFault) → Fails verify_fault e (kinds_from r vars first []) → Fails verify_fault e (check_rule r.resolved.now.model r.resolved.now.unit r.index (unit_rule r.resolved.now.unit r.index))
  code_wrong OutOfMemory h = tt
  code_wrong (At flaw rule at) h = rule_checks ∙ rw h refl

  -- where the code ends with anything but one Boolean, that is the fault of the rule
  pub end_wrong : (ks : List Kind) → kinds_from r vars first [] ≡ Ok ks → (e : VerifyFault) → Fails verify_fault e (ended_with (surroundings_of r) a_boolean end ks) → Fails verify_fault e (check_rule r.resolved.now.model r.resolved.now.unit r.index (unit_rule r.resolved.now.unit r.index))
  end_wrong ks h OutOfMemory g = tt
  end_wrong ks h (At flaw rule at) g = rule_checks ∙ ap (λ (o : Result (List Kind) InstrFault). o >>= (λ l. ended_with (surroundings_of r) a_boolean end l >>= (λ k. Ok tt))) h ∙ ap (λ (o : Result Kind InstrFault). o >>= (λ k. Ok tt)) g

  -- a rule whose code ends with one Boolean has no fault
  pub rule_passes : (ks : List Kind) (k : Kind) → kinds_from r vars first [] ≡ Ok ks → ended_with (surroundings_of r) a_boolean end ks ≡ Ok k → check_rule r.resolved.now.model r.resolved.now.unit r.index (unit_rule r.resolved.now.unit r.index) ≡ Ok tt
  rule_passes ks k h g = rule_checks ∙ ap (λ (o : Result (List Kind) InstrFault). o >>= (λ l. ended_with (surroundings_of r) a_boolean end l >>= (λ j. Ok tt))) h ∙ ap (λ (o : Result Kind InstrFault). o >>= (λ j. Ok tt)) g

  from_zero : (d : Depths) → deeper (record { operands = 0; variables = 0; blocks = 0 }) d ≡ d
  from_zero d = rw (zero-max d.operands, zero-max d.variables, zero-max d.blocks) refl

  -- the depths that the walk found are those of the rule
  pub rule_goes_deep : (kept : List Kind) (new : Depths) → Walked r vars (record { operands = 0; variables = 0; blocks = 0 }) first kept new → new ≡ depths_of r.resolved.now.model r.resolved.now.unit r.index (unit_rule r.resolved.now.unit r.index)
  rule_goes_deep kept new w =
      let m = r.resolved.now.model in
      let v = r.resolved.now.unit in
      let s = surroundings_of r in
      w.depths
      ∙ from_zero (depths_from r vars first [])
      ∙ ap (λ (vs : List Kind). depths_from r vs first []) begins
      ∙ ap (λ (t : CodeTree). rule_depths s t) its_tree
      ∙ ap (λ (o : Option ℕ). rule_depths (surroundings m v r.index (unwrap_or o 0)) (code_tree x.code)) context
      ∙ ap (depths_of m v r.index) (sym (rule_is v u r.index x same is))

-- ---- the rules in their order

module _ (m : Model) (u : Content) where
  -- the rules before an index have no fault, and go so deep
  pub record Checked (n : ℕ) (depths : List Depths) : Type 0 where
    pub left : check_unit m u ≡ check_rules m u n (drop n u.rules)
    pub deep : depths_of_rules m u 0 u.rules ≡ depths ++ depths_of_rules m u n (drop n u.rules)

  -- before the first rule
  pub none_checked : (depths : List Depths) → depths ≡ [] → Checked 0 depths
  none_checked depths e = rw e (record { left = refl; deep = refl })

  next_rule : (n : ℕ) → n < length u.rules → drop n u.rules ≡ unit_rule u n ∷ drop (n + 1) u.rules
  next_rule n lt = drop_more u.rules n empty_rule lt

  -- one rule more without a fault, with its depths behind those before it
  pub one_checked : (n : ℕ) (before after : List Depths) (d : Depths) → Checked n before → n < length u.rules → check_rule m u n (unit_rule u n) ≡ Ok tt → d ≡ depths_of m u n (unit_rule u n) → after ≡ before ++ d ∷ [] → Checked (n + 1) after
  one_checked n before after d c lt passes deep pushed =
      rw pushed
      (record {
        left = c.left ∙ ap (check_rules m u n) (next_rule n lt) ∙ ap (λ (o : Result (Unit {0}) InstrFault). o >>= (λ z. check_rules m u (n + 1) (drop (n + 1) u.rules))) passes;
        deep =
            c.deep
            ∙ ap (λ (rs : List RuleContent). before ++ depths_of_rules m u n rs) (next_rule n lt)
            ∙ ap (λ (x : Depths). before ++ x ∷ depths_of_rules m u (n + 1) (drop (n + 1) u.rules)) (sym deep)
            ∙ sym (append_assoc before (d ∷ []) (depths_of_rules m u (n + 1) (drop (n + 1) u.rules)));
      })

  -- when all rules are checked, the unit is accepted
  pub all_checked : (n : ℕ) (depths : List Depths) → Checked n depths → length u.rules ≤ n → check_unit m u ≡ Ok tt
  all_checked n depths c le = c.left ∙ ap (check_rules m u n) (drop_all n u.rules le)

  -- ---- accepted units

  each_passes : (n : ℕ) (rs : List RuleContent) (i : ℕ) → check_rules m u n rs ≡ Ok tt → i < length rs → check_rule m u (n + i) (get_or rs i empty_rule) ≡ Ok tt
  each_passes n [] i e lt = absurd (omega arith)
  each_passes n (x ∷ xs) zero e lt = let here : n + 0 ≡ n = omega arith in rw here (both_steps (check_rule m u n x) (λ z. check_rules m u (n + 1) xs) tt e).1
  each_passes n (x ∷ xs) (suc i) e lt =
      let here : n + suc i ≡ n + 1 + i = omega arith in
      rw here (each_passes (n + 1) xs i (both_steps (check_rule m u n x) (λ z. check_rules m u (n + 1) xs) tt e).2 (omega arith))

  -- each rule of an accepted unit passes
  pub rule_accepted : IsAcceptedUnit m u → (n : ℕ) → n < length u.rules → check_rule m u n (unit_rule u n) ≡ Ok tt
  rule_accepted e n lt = let P : ℕ → Type 0 = λ k. check_rule m u k (unit_rule u n) ≡ Ok tt in subst P (omega arith) (each_passes 0 u.rules n e lt)

  -- its context class is there
  pub has_context : IsAcceptedUnit m u → (n : ℕ) → n < length u.rules → (c : ℕ) × (context_class m u (unit_rule u n) ≡ Some c)
  has_context e n lt =
      let x = unit_rule u n in
      let fault = instr_fault flaws.NoSuchName n 0 in
      let p = both_steps (found (context_class m u x) fault) (λ c. rule_ends (surroundings m u n c) (code_tree x.code) >>= (λ k. Ok tt)) tt (rule_accepted e n lt) in
      (p.0, found_is (context_class m u x) fault p.0 p.1)

  depths_count : (n : ℕ) (rs : List RuleContent) → length (depths_of_rules m u n rs) ≡ length rs
  depths_count n [] = refl
  depths_count n (x ∷ xs) = omega (arith, depths_count (n + 1) xs)

  deep_at : (n : ℕ) (rs : List RuleContent) (i : ℕ) (d : Depths) → i < length rs → get_or (depths_of_rules m u n rs) i d ≡ depths_of m u (n + i) (get_or rs i empty_rule)
  deep_at n [] i d lt = absurd (omega arith)
  deep_at n (x ∷ xs) zero d lt = let here : n + 0 ≡ n = omega arith in rw here refl
  deep_at n (x ∷ xs) (suc i) d lt = let here : n + suc i ≡ n + 1 + i = omega arith in rw here (deep_at (n + 1) xs i d (omega arith))

  -- there are depths for each rule
  pub depths_there : (depths : List Depths) (n : ℕ) → depths ≡ depths_of_rules m u 0 u.rules → n < length u.rules → n < length depths
  depths_there depths n e lt = rw e (omega (arith, depths_count 0 u.rules))

  -- the depths that are read at an index are those of the rule of that index
  pub depth_read : (depths : List Depths) (n : ℕ) (d : Depths) → depths ≡ depths_of_rules m u 0 u.rules → n < length u.rules → d ≡ get_or depths n d → d ≡ depths_of m u n (unit_rule u n)
  depth_read depths n d e lt is = is ∙ ap (λ (l : List Depths). get_or l n d) e ∙ deep_at 0 u.rules n d lt ∙ ap (λ (k : ℕ). depths_of m u k (unit_rule u n)) (zero-add n)
