-- Each rule of an accepted unit has a core tree.
use Rattle.std.proofs.Common.{◌≡◌, ℕ, suc, ◌+◌, true, ◌&&◌, List, [], ◌∷◌, ◌++◌, length, Option, Some, None, Result, Ok, refl, sym, ap, ◌∙◌}
use Rattle.std.specs.Prelude.{ℤ, pos, negsuc, option_and_then, is_some, unwrap_or, if◌then◌else◌}
use Rattle.std.proofs.lemmas.Bool.{and_parts}
use Rattle.std.proofs.lemmas.Option.{slice_get-get_or}
use Rattle.imkl_population.specs.Values.{is_integer}
use Rattle.ocl_base.specs.Steps.{◌>>=◌, found}
use Rattle.ocl_base.proofs.ForAbove.{both_steps}
use Rattle.ocl_kinds.specs.declared.kind.Kind.{Kind}
use Rattle.ocl_kinds.specs.declared.kind.Kind.TheVariants as kind
use Rattle.ocl_kinds.specs.declared.kind.ScalarKind.TheVariants as element
use Rattle.ocl_core.specs.declared.operator.ClassOperator.{ClassOperator}
use Rattle.ocl_core.specs.declared.operator.ClassOperator.TheVariants as of_class
use Rattle.ocl_core.specs.Core.{CoreTree}
use Rattle.rule_code.specs.WellFormed.{RuleFits}
use Rattle.rule_code.proofs.ForAbove.{EachFits-at}
use Rattle.rule_code.specs.declared.instruction.Instr.{Instr}
use Rattle.rule_code.specs.declared.instruction.Instr.TheVariants as instrs
use Rattle.rule_code.specs.declared.symbol.SymbolTag.{SymbolTag}
use Rattle.rule_code.specs.declared.symbol.SymbolTag.TheVariants as tags
use Rattle.rule_code.specs.SymbolTag.{is_symbol_of}
use Rattle.rule_verify.specs.declared.fault.VerifyFlaw.TheVariants as flaws
use Rattle.rule_verify.specs.declared.named.Named.{Named}
use Rattle.rule_verify.specs.declared.named.Named.TheVariants as named
use Rattle.rule_verify.specs.declared.shape.Shape.TheVariants.{Single}
use Rattle.rule_verify.specs.Patterns.{a_boolean, are_there, below}
use Rattle.rule_verify.specs.CodeTree as code
use Rattle.rule_verify.specs.CodeTree.{CodeTree, shape_of, instr_count}
use Rattle.rule_verify.specs.InstrKinds.{surroundings, has_names, operands_of, yields, block_operand, binds}
use Rattle.rule_verify.specs.KindRules.{InstrFault, instr_fault, Enclosing, in_block, after_plain, taken, kinds_after, rule_ends}
use Rattle.rule_verify.specs.UnitRules.{unit_rule, empty_rule}
use Rattle.rule_verify.proofs.ForAbove.{rule_accepted, has_context}
use Rattle.rule_values.proofs.ForAbove.{fits_integer}
use Rattle.rule_machine.specs.Machine.{Setting, setting_of, judged_by}
use Rattle.rule_machine.specs.Laws.{tree_of_rule}
use Rattle.rule_machine.specs.Live.{HasBody, HasBranches}
use Rattle.rule_machine.proofs.ForAbove.{IsNamed, symbol_names, Fits, AllFit, IsCut, code_is_cut, plain_says, block_says, branch_says, ended_says}
use Rattle.rule_trees.specs.InstrTrees.{symbol_meant, below_zero, integer_over, literal_over, instances_over, feature_over, class_over, plain_trees}
use Rattle.rule_trees.specs.CoreOf.{sole, block_trees, branch_trees, trees_after}
use Rattle.rule_trees.specs.Laws.{AcceptedRulesHaveTrees}

one_less : (m n : ℕ) → suc m ≡ suc n → m ≡ n
one_less m n e = cc

-- trees there are, as many as this
abbrev Made : Option (List CoreTree) → ℕ → Type 0
Made o n = (ds : List CoreTree) × (o ≡ Some ds) × (length ds ≡ n)

class_there : (o : Option Named) (x : Named) → o ≡ Some x → IsNamed tags.Class x → (c : ℕ) × (o ≡ Some (named.Class c))
class_there o (named.Class c) e h = (c, e)
class_there o x e h = absurd h

literal_there : (o : Option Named) (x : Named) → o ≡ Some x → IsNamed tags.Literal x → (e : ℕ) × (l : ℕ) × (o ≡ Some (named.Literal e l))
literal_there o (named.Literal e l) is h = (e, l, is)
literal_there o x e h = absurd h

feature_there : (o : Option Named) (x : Named) → o ≡ Some x → IsNamed tags.Feature x → (c : ℕ) × (f : ℕ) × (o ≡ Some (named.Feature c f))
feature_there o (named.Feature c f) is h = (c, f, is)
feature_there o x e h = absurd h

one_long : (cs : List CoreTree) → length cs ≡ 1 → (b : CoreTree) × (sole (Some cs) ≡ Some b)
one_long [] e = cc
one_long (c ∷ []) e = (c, refl)
one_long (c ∷ d ∷ cs) e = cc

module _ (s : Setting) where
  abbrev Named_at : SymbolTag → ℕ → Type 0
  Named_at tag n = (x : Named) × (symbol_meant (judged_by s) n ≡ Some x) × IsNamed tag x

  names_there : (tag : SymbolTag) (n : ℕ) → is_symbol_of tag s.unit.symbols n ≡ true → (is_some (symbol_meant (judged_by s) n) && true) ≡ true → Named_at tag n
  names_there tag n t h =
      let y = symbol_names s.population.model s.unit tag n t (and_parts (is_some (symbol_meant (judged_by s) n)) true h).0 in
      (y.0, y.1, y.2)

  class_defined : (o : ClassOperator) (n : ℕ) → Named_at tags.Class n → (v : CoreTree) (cs : List CoreTree) (k : ℕ) → suc (length cs) ≡ k → Made (class_over o (v ∷ cs) (symbol_meant (judged_by s) n)) k
  class_defined o n h v cs k e =
      let c = class_there (symbol_meant (judged_by s) n) h.0 h.1 h.2 in
      (_, ap (λ x. class_over o (v ∷ cs) x) c.1, e)

  integer_defined : (n : ℤ) → is_integer n ≡ true → (cs : List CoreTree) (k : ℕ) → suc (length cs) ≡ k → Made (integer_over n cs) k
  integer_defined (pos n) h cs k e = (_, refl, e)
  integer_defined (negsuc n) h cs k e = (_, ap (λ b. if b then Some (below_zero n (is_integer (pos (suc n))) ∷ cs) else None) h, e)

  plain_defined : (i : Instr) (cs : List CoreTree) (ks : List Kind) → shape_of i ≡ Single → Fits s i → has_names (judged_by s) i ≡ true → are_there (operands_of (judged_by s) i) ks ≡ true → length cs ≡ length ks
      → Made (plain_trees (judged_by s) i cs) (suc (length (below (operands_of (judged_by s) i) ks)))
  plain_defined instrs.SelfObject cs ks h f n t e = (_, refl, ap suc e)
  plain_defined (instrs.Get v) cs ks h f n t e = (_, refl, ap suc e)
  plain_defined (instrs.Int x) cs ks h f n t e = integer_defined x (fits_integer x f.0) cs _ (ap suc e)
  plain_defined (instrs.Bool b) cs ks h f n t e = (_, refl, ap suc e)
  plain_defined (instrs.Text x) cs ks h f n t e = (_, refl, ap suc e)
  plain_defined (instrs.Enum l) cs ks h f n t e =
      let y = names_there tags.Literal l.0 f.0 n in
      let x = literal_there (symbol_meant (judged_by s) l.0) y.0 y.1 y.2 in
      (_, ap (λ o. literal_over o cs) x.2, ap suc e)
  plain_defined instrs.Null cs ks h f n t e = (_, refl, ap suc e)
  plain_defined instrs.Invalid cs ks h f n t e = (_, refl, ap suc e)
  plain_defined (instrs.Attr a) (v ∷ cs) (k ∷ ks) h f n t e =
      let y = names_there tags.Feature a.0 f.0 n in
      let x = feature_there (symbol_meant (judged_by s) a.0) y.0 y.1 y.2 in
      (_, ap (λ o. feature_over (v ∷ cs) o) x.2, e)
  plain_defined (instrs.All c) cs ks h f n t e =
      let y = names_there tags.Class c.0 f.0 n in
      let x = class_there (symbol_meant (judged_by s) c.0) y.0 y.1 y.2 in
      (_, ap (λ o. instances_over o cs) x.1, ap suc e)
  plain_defined (instrs.KindOf c) (v ∷ cs) (k ∷ ks) h f n t e = class_defined of_class.IsKindOf c.0 (names_there tags.Class c.0 f.0 n) v cs _ e
  plain_defined (instrs.TypeOf c) (v ∷ cs) (k ∷ ks) h f n t e = class_defined of_class.IsTypeOf c.0 (names_there tags.Class c.0 f.0 n) v cs _ e
  plain_defined (instrs.AsType c) (v ∷ cs) (k ∷ ks) h f n t e = class_defined of_class.AsType c.0 (names_there tags.Class c.0 f.0 n) v cs _ e
  plain_defined (instrs.AsColl c w) (v ∷ cs) (k ∷ ks) h f n t e = (_, refl, e)
  plain_defined instrs.Add (w ∷ v ∷ cs) (k ∷ l ∷ ks) h f n t e = (_, refl, one_less _ _ e)
  plain_defined instrs.Sub (w ∷ v ∷ cs) (k ∷ l ∷ ks) h f n t e = (_, refl, one_less _ _ e)
  plain_defined instrs.Mul (w ∷ v ∷ cs) (k ∷ l ∷ ks) h f n t e = (_, refl, one_less _ _ e)
  plain_defined instrs.Div (w ∷ v ∷ cs) (k ∷ l ∷ ks) h f n t e = (_, refl, one_less _ _ e)
  plain_defined instrs.Mod (w ∷ v ∷ cs) (k ∷ l ∷ ks) h f n t e = (_, refl, one_less _ _ e)
  plain_defined instrs.Min (w ∷ v ∷ cs) (k ∷ l ∷ ks) h f n t e = (_, refl, one_less _ _ e)
  plain_defined instrs.Max (w ∷ v ∷ cs) (k ∷ l ∷ ks) h f n t e = (_, refl, one_less _ _ e)
  plain_defined instrs.Lt (w ∷ v ∷ cs) (k ∷ l ∷ ks) h f n t e = (_, refl, one_less _ _ e)
  plain_defined instrs.Le (w ∷ v ∷ cs) (k ∷ l ∷ ks) h f n t e = (_, refl, one_less _ _ e)
  plain_defined instrs.Gt (w ∷ v ∷ cs) (k ∷ l ∷ ks) h f n t e = (_, refl, one_less _ _ e)
  plain_defined instrs.Ge (w ∷ v ∷ cs) (k ∷ l ∷ ks) h f n t e = (_, refl, one_less _ _ e)
  plain_defined instrs.And (w ∷ v ∷ cs) (k ∷ l ∷ ks) h f n t e = (_, refl, one_less _ _ e)
  plain_defined instrs.Or (w ∷ v ∷ cs) (k ∷ l ∷ ks) h f n t e = (_, refl, one_less _ _ e)
  plain_defined instrs.Xor (w ∷ v ∷ cs) (k ∷ l ∷ ks) h f n t e = (_, refl, one_less _ _ e)
  plain_defined instrs.Implies (w ∷ v ∷ cs) (k ∷ l ∷ ks) h f n t e = (_, refl, one_less _ _ e)
  plain_defined instrs.Eqx (w ∷ v ∷ cs) (k ∷ l ∷ ks) h f n t e = (_, refl, one_less _ _ e)
  plain_defined instrs.Neg (v ∷ cs) (k ∷ ks) h f n t e = (_, refl, e)
  plain_defined instrs.Abs (v ∷ cs) (k ∷ ks) h f n t e = (_, refl, e)
  plain_defined instrs.Not (v ∷ cs) (k ∷ ks) h f n t e = (_, refl, e)
  plain_defined instrs.Undef (v ∷ cs) (k ∷ ks) h f n t e = (_, refl, e)
  plain_defined instrs.IsInv (v ∷ cs) (k ∷ ks) h f n t e = (_, refl, e)
  plain_defined instrs.TLen (v ∷ cs) (k ∷ ks) h f n t e = (_, refl, e)
  plain_defined instrs.Size (v ∷ cs) (k ∷ ks) h f n t e = (_, refl, e)
  plain_defined instrs.IsEmpty (v ∷ cs) (k ∷ ks) h f n t e = (_, refl, e)
  plain_defined instrs.Sum (v ∷ cs) (k ∷ ks) h f n t e = (_, refl, e)
  plain_defined (instrs.Eq x) (w ∷ v ∷ cs) (k ∷ l ∷ ks) h f n t e = (_, refl, one_less _ _ e)
  plain_defined instrs.SubStr (u ∷ w ∷ v ∷ cs) (k ∷ l ∷ m ∷ ks) h f n t e = (_, refl, one_less _ _ (one_less _ _ e))
  plain_defined (instrs.Includes x) (w ∷ v ∷ cs) (k ∷ l ∷ ks) h f n t e = (_, refl, one_less _ _ e)
  plain_defined (instrs.Count x) (w ∷ v ∷ cs) (k ∷ l ∷ ks) h f n t e = (_, refl, one_less _ _ e)
  plain_defined (instrs.IncAll x) (w ∷ v ∷ cs) (k ∷ l ∷ ks) h f n t e = (_, refl, one_less _ _ e)
  plain_defined (instrs.ExcAll x) (w ∷ v ∷ cs) (k ∷ l ∷ ks) h f n t e = (_, refl, one_less _ _ e)
  plain_defined (instrs.AsSet x) (v ∷ cs) (k ∷ ks) h f n t e = (_, refl, e)
  plain_defined i [] [] h f n t e = cc
  plain_defined i [] (k ∷ ks) h f n t e = cc
  plain_defined i (v ∷ cs) [] h f n t e = cc
  plain_defined i (v ∷ []) (k ∷ []) h f n t e = cc
  plain_defined i (v ∷ []) (k ∷ l ∷ ks) h f n t e = cc
  plain_defined i (v ∷ w ∷ cs) (k ∷ []) h f n t e = cc
  plain_defined i (v ∷ w ∷ []) (k ∷ l ∷ []) h f n t e = cc
  plain_defined i (v ∷ w ∷ []) (k ∷ l ∷ m ∷ ks) h f n t e = cc
  plain_defined i (v ∷ w ∷ x ∷ cs) (k ∷ l ∷ []) h f n t e = cc
  plain_defined i (v ∷ w ∷ x ∷ cs) (k ∷ l ∷ m ∷ ks) h f n t e = cc

  block_defined : (i : Instr) (b : CoreTree) (cs : List CoreTree) (ks : List Kind) → HasBody i → are_there (operands_of (judged_by s) i) ks ≡ true → length cs ≡ length ks
      → Made (block_trees (judged_by s) i (Some b) cs) (suc (length (below (operands_of (judged_by s) i) ks)))
  block_defined (instrs.Let x) b (v ∷ cs) (k ∷ ks) h t e = (_, refl, e)
  block_defined (instrs.ForAll x) b (v ∷ cs) (k ∷ ks) h t e = (_, refl, e)
  block_defined (instrs.Exists x) b (v ∷ cs) (k ∷ ks) h t e = (_, refl, e)
  block_defined (instrs.One x) b (v ∷ cs) (k ∷ ks) h t e = (_, refl, e)
  block_defined (instrs.Select x) b (v ∷ cs) (k ∷ ks) h t e = (_, refl, e)
  block_defined (instrs.Reject x) b (v ∷ cs) (k ∷ ks) h t e = (_, refl, e)
  block_defined (instrs.Collect x) b (v ∷ cs) (k ∷ ks) h t e = (_, refl, e)
  block_defined (instrs.CollectFlat x) b (v ∷ cs) (k ∷ ks) h t e = (_, refl, e)
  block_defined (instrs.IsUnique y x) b (v ∷ cs) (k ∷ ks) h t e = (_, refl, e)
  block_defined (instrs.Fold y x) b (w ∷ v ∷ cs) (k ∷ l ∷ ks) h t e = (_, refl, one_less _ _ e)
  block_defined (instrs.Let x) b [] [] h t e = cc
  block_defined (instrs.Let x) b [] (k ∷ ks) h t e = cc
  block_defined (instrs.Let x) b (v ∷ cs) [] h t e = cc
  block_defined (instrs.ForAll x) b [] [] h t e = cc
  block_defined (instrs.ForAll x) b [] (k ∷ ks) h t e = cc
  block_defined (instrs.ForAll x) b (v ∷ cs) [] h t e = cc
  block_defined (instrs.Exists x) b [] [] h t e = cc
  block_defined (instrs.Exists x) b [] (k ∷ ks) h t e = cc
  block_defined (instrs.Exists x) b (v ∷ cs) [] h t e = cc
  block_defined (instrs.One x) b [] [] h t e = cc
  block_defined (instrs.One x) b [] (k ∷ ks) h t e = cc
  block_defined (instrs.One x) b (v ∷ cs) [] h t e = cc
  block_defined (instrs.Select x) b [] [] h t e = cc
  block_defined (instrs.Select x) b [] (k ∷ ks) h t e = cc
  block_defined (instrs.Select x) b (v ∷ cs) [] h t e = cc
  block_defined (instrs.Reject x) b [] [] h t e = cc
  block_defined (instrs.Reject x) b [] (k ∷ ks) h t e = cc
  block_defined (instrs.Reject x) b (v ∷ cs) [] h t e = cc
  block_defined (instrs.Collect x) b [] [] h t e = cc
  block_defined (instrs.Collect x) b [] (k ∷ ks) h t e = cc
  block_defined (instrs.Collect x) b (v ∷ cs) [] h t e = cc
  block_defined (instrs.CollectFlat x) b [] [] h t e = cc
  block_defined (instrs.CollectFlat x) b [] (k ∷ ks) h t e = cc
  block_defined (instrs.CollectFlat x) b (v ∷ cs) [] h t e = cc
  block_defined (instrs.IsUnique y x) b [] [] h t e = cc
  block_defined (instrs.IsUnique y x) b [] (k ∷ ks) h t e = cc
  block_defined (instrs.IsUnique y x) b (v ∷ cs) [] h t e = cc
  block_defined (instrs.Fold y x) b [] [] h t e = cc
  block_defined (instrs.Fold y x) b [] (k ∷ ks) h t e = cc
  block_defined (instrs.Fold y x) b (v ∷ cs) [] h t e = cc
  block_defined (instrs.Fold y x) b (v ∷ []) (k ∷ []) h t e = cc
  block_defined (instrs.Fold y x) b (v ∷ []) (k ∷ l ∷ ks) h t e = cc
  block_defined (instrs.Fold y x) b (v ∷ w ∷ cs) (k ∷ []) h t e = cc
  block_defined i b cs ks h t e = let bad = h.1 in cc

  branch_defined : (i : Instr) (a b : CoreTree) (cs : List CoreTree) (ks : List Kind) → HasBranches i → are_there (operands_of (judged_by s) i) ks ≡ true → length cs ≡ length ks
      → Made (branch_trees (judged_by s) i (Some a) (Some b) cs) (suc (length (below (operands_of (judged_by s) i) ks)))
  branch_defined (instrs.If y n m) a b (v ∷ cs) (k ∷ ks) h t e = (_, refl, e)
  branch_defined (instrs.If y n m) a b [] [] h t e = cc
  branch_defined (instrs.If y n m) a b [] (k ∷ ks) h t e = cc
  branch_defined (instrs.If y n m) a b (v ∷ cs) [] h t e = cc
  branch_defined i a b cs ks h t e = let bad = h.2 in cc

  -- a body that ends with one kind leaves one tree
  sole_made : (o : Option (List CoreTree)) (ends : List Kind) (k : Kind) → ends ≡ k ∷ [] → Made o (length ends) → (b : CoreTree) × (sole o ≡ Some b)
  sole_made o ends k one h =
      let b = one_long h.0 (h.2 ∙ ap (λ (l : List Kind). length l) one) in
      (b.0, ap sole h.1 ∙ b.1)

  code_defined : (t : CodeTree) (e : Enclosing) (at : ℕ) (ks out : List Kind) (cs : List CoreTree) → IsCut s t → kinds_after (judged_by s) t e at ks ≡ Ok out → length cs ≡ length ks → Made (trees_after (judged_by s) t cs) (length out)
  code_defined code.End e at ks out cs c h same = (cs, refl, let l : ks ≡ out = cc in same ∙ ap (λ (l : List Kind). length l) l)
  code_defined (code.Plain i rest) e at ks out cs c h same =
      let sur = judged_by s in
      let a = both_steps (after_plain sur e i at ks) _ out h in
      let b = plain_says sur e i at ks a.0 a.1 in
      let made = plain_defined i cs ks c.0 c.1 b.1.names b.1.there same in
      let long : length made.0 ≡ length a.0 = made.2 ∙ sym (ap (λ (l : List Kind). suc (length l)) b.1.left_is) ∙ sym (ap (λ (l : List Kind). length l) b.2) in
      let go = code_defined rest e (at + 1) a.0 out made.0 c.2 a.2 long in
      (go.0, ap (option_and_then (trees_after sur rest)) made.1 ∙ go.1, go.2)
  code_defined (code.Block i body rest) e at ks out cs c h same =
      let sur = judged_by s in
      let b = block_says sur e i body rest at ks out h in
      let inside = code_defined body (in_block e (binds sur i (block_operand i ks) ++ e.variables) b.left) (at + 1) [] b.ends [] c.2 b.body_ends refl in
      let sole_is = sole_made (trees_after sur body []) b.ends b.gives b.one inside in
      let made = block_defined i sole_is.0 cs ks c.0 b.takes.there same in
      let long : length made.0 ≡ suc (length b.left) = made.2 ∙ sym (ap (λ (l : List Kind). suc (length l)) b.takes.left_is) in
      let go = code_defined rest e (at + 1 + instr_count body) (yields sur i (block_operand i ks) b.gives ∷ b.left) out made.0 c.3 b.rest_ends long in
      (go.0, ap (λ x. option_and_then (trees_after sur rest) (block_trees sur i x cs)) sole_is.1 ∙ ap (option_and_then (trees_after sur rest)) made.1 ∙ go.1, go.2)
  code_defined (code.Branch i one two rest) e at ks out cs c h same =
      let sur = judged_by s in
      let b = branch_says sur e i one two rest at ks out h in
      let in_one = code_defined one (in_block e e.variables b.left) (at + 1) [] b.ends [] c.2 b.first_ends refl in
      let in_two = code_defined two (in_block e e.variables b.left) (at + 1 + instr_count one) [] b.others [] c.3 b.second_ends refl in
      let x = sole_made (trees_after sur one []) b.ends b.gives b.one in_one in
      let y = sole_made (trees_after sur two []) b.others b.other b.other_one in_two in
      let made = branch_defined i x.0 y.0 cs ks c.0 b.takes.there same in
      let long : length made.0 ≡ suc (length b.left) = made.2 ∙ sym (ap (λ (l : List Kind). suc (length l)) b.takes.left_is) in
      let go = code_defined rest e (at + 1 + instr_count one + instr_count two) (yields sur i (block_operand i ks) b.gives ∷ b.left) out made.0 c.4 b.rest_ends long in (
        go.0,
        ap (λ z. option_and_then (trees_after sur rest) (branch_trees sur i z (sole (trees_after sur two [])) cs)) x.1 ∙ ap (λ z. option_and_then (trees_after sur rest) (branch_trees sur i (Some x.0) z cs)) y.1
            ∙ ap (option_and_then (trees_after sur rest)) made.1 ∙ go.1,
        go.2,
      )
  code_defined (code.Torn i left) e at ks out cs c h same =
      let a = both_steps (taken (judged_by s) e.variables i at ks) _ out h in
      let bad = a.2 in cc

-- the law, by a setting of the class model alone
pub accepted_rules_have_trees : AcceptedRulesHaveTrees
accepted_rules_have_trees m u n unit accepts inside =
    let s = setting_of u (record { model = m; objects = [] }) n in
    let t = tree_of_rule u n in
    let fits : AllFit s (unit_rule u n).code = (EachFits-at (RuleFits u.version u.texts u.symbols) [] u.rules n (unit_rule u n) (slice_get-get_or u.rules n empty_rule inside) unit.rules).1.code in
    let c = has_context m u accepts n inside in
    let ends : Option ℕ → Result (Unit {0}) InstrFault = λ x. found x (instr_fault flaws.NoSuchName n 0) >>= (λ y. rule_ends (surroundings m u n y) t >>= (λ k. Ok tt)) in
    let k = both_steps (rule_ends (surroundings m u n c.0) t) _ tt (ap ends (sym c.1) ∙ rule_accepted m u accepts n inside) in
    let accepted : rule_ends (judged_by s) t ≡ Ok k.0 = ap (λ x. rule_ends (surroundings m u n (unwrap_or x 0)) t) c.1 ∙ k.1 in
    let e : Enclosing = record { variables = kind.Scalar (element.Class s.context) ∷ []; covered = 0; open_blocks = 0 } in
    let after = both_steps (kinds_after (judged_by s) t e 0 []) _ k.0 accepted in
    let ended = ended_says (judged_by s) a_boolean (instr_count t) after.0 k.0 after.2 in
    sole_made s (trees_after (judged_by s) t []) after.0 k.0 ended.0 (code_defined s t e 0 [] after.0 [] (code_is_cut s (unit_rule u n).code fits) after.1 refl)
