-- The code of a typed tree puts this very tree on those before it.
use Rattle.std.proofs.Common.{◌≡◌, ℕ, zero, suc, List, [], ◌∷◌, length, Option, Some, refl, sym, ap, ◌∙◌}
use Rattle.std.specs.Prelude.{option_and_then}
use Rattle.ocl_kinds.specs.declared.kind.ScalarKind.{ScalarKind}
use Rattle.ocl_kinds.specs.declared.kind.ScalarKind.TheVariants as element
use Rattle.ocl_kinds.specs.declared.kind.Kind.{Kind}
use Rattle.ocl_kinds.specs.declared.kind.Kind.TheVariants.{Scalar, Collection}
use Rattle.imkl_model.specs.ClassModel.{Model}
use Rattle.ocl_core.specs.declared.operator.PlainOperator.{PlainOperator}
use Rattle.ocl_core.specs.declared.operator.PlainOperator.TheVariants as plain
use Rattle.ocl_core.specs.declared.operator.ClassOperator.{ClassOperator}
use Rattle.ocl_core.specs.declared.operator.ClassOperator.TheVariants as of_class
use Rattle.ocl_core.specs.declared.operator.ElementOperator.{ElementOperator}
use Rattle.ocl_core.specs.declared.operator.ElementOperator.TheVariants as of_elements
use Rattle.ocl_core.specs.declared.operator.Operator.{Operator}
use Rattle.ocl_core.specs.declared.operator.Operator.TheVariants.{Plain, OfClass, OfElements, Equal}
use Rattle.ocl_core.specs.declared.core_tree.Iteration.{Iteration}
use Rattle.ocl_core.specs.declared.core_tree.Iteration.TheVariants as iteration
use Rattle.ocl_core.specs.Core as tree
use Rattle.ocl_core.specs.Core.{Constant, CoreTree, CoreTrees, no_core, one_core}
use Rattle.ocl_core.specs.Typing.{IsTyped, AreTyped}
use Rattle.rule_code.specs.declared.instruction.Instr.TheVariants as instrs
use Rattle.rule_verify.specs.InstrKinds.{Surroundings, scalar_meant, kind_meant, enumeration_kind, class_kind}
use Rattle.rule_verify.specs.CodeTree as code
use Rattle.rule_verify.specs.CodeTree.{CodeTree, instr_count}
use Rattle.ocl_compile.specs.Numbering.{Numbering, tree_uses, trees_uses, constant_uses, scalar_uses, kind_uses, iteration_uses, operator_uses, owned_feature}
use Rattle.ocl_compile.specs.Translation.{constant_instr, variable_instr, operator_instr, iteration_instr, iteration_block, fold_block, let_block, if_block, written_scalar, written_kind, symbol_of_unit, translate, translate_all}
use Rattle.ocl_compile.specs.ResolvedUses.{AreUsesResolved}
use Rattle.ocl_compile.proofs.ForAbove.{of_first, of_rest, operands_counted, operand_count}
use Rattle.rule_trees.specs.InstrTrees.{literal_over, instances_over, feature_over, class_over, plain_trees}
use Rattle.rule_trees.specs.CoreOf.{sole, block_trees, branch_trees, trees_after}
use Rattle.rule_trees.specs.Laws.{TranslatingIsUndone}

-- how many trees
abbrev tree_count : CoreTrees → ℕ
tree_count no_core = zero
tree_count (one_core t ts) = suc (tree_count ts)

-- trees put on others one after another
abbrev stacked_trees : CoreTrees → List CoreTree → List CoreTree
stacked_trees no_core cs = cs
stacked_trees (one_core t ts) cs = stacked_trees ts (t ∷ cs)

-- as many as there are kinds
trees_counted : (m : Model) (g : List Kind) (ts : CoreTrees) (ks : List Kind) → AreTyped m g ts ks → tree_count ts ≡ length ks
trees_counted m g no_core ks h = ap (λ (l : List Kind). length l) (sym h)
trees_counted m g (one_core t ts) ks h = ap suc (trees_counted m g ts h.1 h.3) ∙ ap (λ (l : List Kind). length l) (sym h.4)

module _ (s : Surroundings) (n : Numbering) where
  -- ---- kinds and constants

  scalar_back : (k : ScalarKind) → AreUsesResolved s.model s.unit n (scalar_uses k) → scalar_meant s (written_scalar n k) ≡ k
  scalar_back element.Void h = refl
  scalar_back element.Boolean h = refl
  scalar_back element.Integer h = refl
  scalar_back element.String h = refl
  scalar_back (element.Enumeration e) h = ap enumeration_kind h.0
  scalar_back (element.Class c) h = ap class_kind h.0
  scalar_back element.AnyObject h = refl

  kind_back : (k : Kind) → AreUsesResolved s.model s.unit n (kind_uses k) → kind_meant s (written_kind n k) ≡ k
  kind_back (Scalar k) h = ap Scalar (scalar_back k h)
  kind_back (Collection c k) h = ap (Collection c) (scalar_back k h)

  constant_back : (c : Constant) → AreUsesResolved s.model s.unit n (constant_uses c) → (cs : List CoreTree) → plain_trees s (constant_instr n c) cs ≡ Some (tree.Value c ∷ cs)
  constant_back (tree.Boolean b) h cs = refl
  constant_back (tree.Integer i) h cs = refl
  constant_back (tree.Text t) h cs = ap (λ x. Some (tree.Value (tree.Text x) ∷ cs)) h.0
  constant_back (tree.Literal e l) h cs = ap (λ x. literal_over x cs) h.0
  constant_back tree.Null h cs = refl
  constant_back tree.Invalid h cs = refl

  variable_back : (v : ℕ) (cs : List CoreTree) → plain_trees s (variable_instr v) cs ≡ Some (tree.Variable v ∷ cs)
  variable_back zero cs = refl
  variable_back (suc v) cs = refl

  -- ---- operators

  plain_made : (o : PlainOperator) (first : CoreTree) (ts : CoreTrees) (cs : List CoreTree) → suc (tree_count ts) ≡ operand_count (Plain o) → plain_trees s (operator_instr n (Plain o)) (stacked_trees ts (first ∷ cs)) ≡ Some (tree.Operation (Plain o) first ts ∷ cs)
  plain_made plain.Add first (one_core w no_core) cs e = refl
  plain_made plain.Subtract first (one_core w no_core) cs e = refl
  plain_made plain.Multiply first (one_core w no_core) cs e = refl
  plain_made plain.Divide first (one_core w no_core) cs e = refl
  plain_made plain.Modulo first (one_core w no_core) cs e = refl
  plain_made plain.Minimum first (one_core w no_core) cs e = refl
  plain_made plain.Maximum first (one_core w no_core) cs e = refl
  plain_made plain.Negate first no_core cs e = refl
  plain_made plain.Absolute first no_core cs e = refl
  plain_made plain.Less first (one_core w no_core) cs e = refl
  plain_made plain.LessEqual first (one_core w no_core) cs e = refl
  plain_made plain.Greater first (one_core w no_core) cs e = refl
  plain_made plain.GreaterEqual first (one_core w no_core) cs e = refl
  plain_made plain.CharacterCount first no_core cs e = refl
  plain_made plain.Substring first (one_core w (one_core x no_core)) cs e = refl
  plain_made plain.Not first no_core cs e = refl
  plain_made plain.And first (one_core w no_core) cs e = refl
  plain_made plain.Or first (one_core w no_core) cs e = refl
  plain_made plain.Xor first (one_core w no_core) cs e = refl
  plain_made plain.Implies first (one_core w no_core) cs e = refl
  plain_made plain.IsUndefined first no_core cs e = refl
  plain_made plain.IsInvalid first no_core cs e = refl
  plain_made plain.BothNull first (one_core w no_core) cs e = refl
  plain_made plain.ElementCount first no_core cs e = refl
  plain_made plain.IsEmpty first no_core cs e = refl
  plain_made plain.Sum first no_core cs e = refl
  plain_made o first ts cs e = cc

  class_made : (o : ClassOperator) (c : ℕ) → AreUsesResolved s.model s.unit n (operator_uses (OfClass o c)) → (first : CoreTree) (cs : List CoreTree) → plain_trees s (operator_instr n (OfClass o c)) (first ∷ cs) ≡ Some (tree.Operation (OfClass o c) first no_core ∷ cs)
  class_made of_class.IsKindOf c h first cs = ap (λ x. class_over of_class.IsKindOf (first ∷ cs) x) h.0
  class_made of_class.IsTypeOf c h first cs = ap (λ x. class_over of_class.IsTypeOf (first ∷ cs) x) h.0
  class_made of_class.AsType c h first cs = ap (λ x. class_over of_class.AsType (first ∷ cs) x) h.0

  element_made : (o : ElementOperator) (k : ScalarKind) (x : ScalarKind) → x ≡ k → (first : CoreTree) (ts : CoreTrees) (cs : List CoreTree) → suc (tree_count ts) ≡ operand_count (OfElements o k)
      → Some (tree.Operation (OfElements o x) first ts ∷ cs) ≡ Some (tree.Operation (OfElements o k) first ts ∷ cs)
  element_made o k x same first ts cs e = ap (λ y. Some (tree.Operation (OfElements o y) first ts ∷ cs)) same

  made : (o : Operator) → AreUsesResolved s.model s.unit n (operator_uses o) → (first : CoreTree) (ts : CoreTrees) (cs : List CoreTree) → suc (tree_count ts) ≡ operand_count o → plain_trees s (operator_instr n o) (stacked_trees ts (first ∷ cs)) ≡ Some (tree.Operation o first ts ∷ cs)
  made (Plain o) h first ts cs e = plain_made o first ts cs e
  made (OfClass o c) h first no_core cs e = class_made o c h first cs
  made (OfElements of_elements.Includes k) h first (one_core w no_core) cs e = element_made of_elements.Includes k _ (scalar_back k h) first (one_core w no_core) cs e
  made (OfElements of_elements.Occurrences k) h first (one_core w no_core) cs e = element_made of_elements.Occurrences k _ (scalar_back k h) first (one_core w no_core) cs e
  made (OfElements of_elements.IncludesAll k) h first (one_core w no_core) cs e = element_made of_elements.IncludesAll k _ (scalar_back k h) first (one_core w no_core) cs e
  made (OfElements of_elements.ExcludesAll k) h first (one_core w no_core) cs e = element_made of_elements.ExcludesAll k _ (scalar_back k h) first (one_core w no_core) cs e
  made (OfElements of_elements.AsSet k) h first no_core cs e = element_made of_elements.AsSet k _ (scalar_back k h) first no_core cs e
  made (Equal k) h first (one_core w no_core) cs e = ap (λ y. Some (tree.Operation (Equal y) first (one_core w no_core) ∷ cs)) (kind_back k h)
  made o h first ts cs e = cc

  -- ---- blocks

  iteration_made : (it : Iteration) → AreUsesResolved s.model s.unit n (iteration_uses it) → (len : ℕ) (b v : CoreTree) (cs : List CoreTree) → block_trees s (iteration_instr n it len) (Some b) (v ∷ cs) ≡ Some (tree.Iterate it v b ∷ cs)
  iteration_made iteration.ForAll h len b v cs = refl
  iteration_made iteration.Exists h len b v cs = refl
  iteration_made iteration.One h len b v cs = refl
  iteration_made iteration.Select h len b v cs = refl
  iteration_made iteration.Reject h len b v cs = refl
  iteration_made iteration.Collect h len b v cs = refl
  iteration_made iteration.CollectFlat h len b v cs = refl
  iteration_made (iteration.IsUnique k) h len b v cs = ap (λ y. Some (tree.Iterate (iteration.IsUnique y) v b ∷ cs)) (scalar_back k h)

  -- then the rest goes on
  on : (rest : CodeTree) (x : Option (List CoreTree)) (ds : List CoreTree) → x ≡ Some ds → option_and_then (trees_after s rest) x ≡ trees_after s rest ds
  on rest x ds e = ap (option_and_then (trees_after s rest)) e

  mutual
    pub trees_back : (t : CoreTree) (g : List Kind) (k : Kind) → IsTyped s.model g t k → AreUsesResolved s.model s.unit n (tree_uses s.model t) → (rest : CodeTree) (cs : List CoreTree)
        → trees_after s (translate s.model n t rest) cs ≡ trees_after s rest (t ∷ cs)
    trees_back (tree.Value c) g k t h rest cs = on rest _ _ (constant_back c h cs)
    trees_back (tree.Variable v) g k t h rest cs = on rest _ _ (variable_back v cs)
    trees_back (tree.AllInstances c) g k t h rest cs = on rest _ _ (ap (λ x. instances_over x cs) h.0)
    trees_back (tree.Feature source f) g k t h rest cs =
        let m = s.model in
        let i = instrs.Attr (symbol_of_unit n (owned_feature m f)) in
        let there = of_rest m s.unit n (tree_uses m source) _ h in
        trees_back source g t.1.0 t.1.1 (of_first m s.unit n (tree_uses m source) _ h) (code.Plain i rest) cs
        ∙ on rest _ _ (ap (λ x. feature_over (source ∷ cs) x) there.0)
    trees_back (tree.Operation o first others) g k t h rest cs =
        let m = s.model in
        let i = operator_instr n o in
        let after = of_rest m s.unit n (tree_uses m first) _ h in
        let counted = ap suc (trees_counted m g others t.1 t.3) ∙ operands_counted m o t.0 t.1 k t.4 in
        trees_back first g t.0 t.2 (of_first m s.unit n (tree_uses m first) _ h) (translate_all m n others (code.Plain i rest)) cs
        ∙ all_back others g t.1 t.3 (of_first m s.unit n (trees_uses m others) _ after) (code.Plain i rest) (first ∷ cs)
        ∙ on rest _ _ (made o (of_rest m s.unit n (trees_uses m others) _ after) first others cs counted)
    trees_back (tree.AsCollection c e source) g k t h rest cs =
        let m = s.model in
        trees_back source g t.1.0 t.1.1 (of_first m s.unit n (tree_uses m source) _ h) (code.Plain (instrs.AsColl c (written_scalar n e)) rest) cs
        ∙ on rest _ _ (ap (λ y. Some (tree.AsCollection c y source ∷ cs)) (scalar_back e (of_rest m s.unit n (tree_uses m source) _ h)))
    trees_back (tree.Iterate it source body) g k t h rest cs =
        let m = s.model in
        let b = translate m n body code.End in
        let after = of_rest m s.unit n (tree_uses m source) _ h in
        let in_body = trees_back body _ t.3 t.6 (of_rest m s.unit n (iteration_uses it) _ after) code.End [] in
        trees_back source g _ t.4 (of_first m s.unit n (tree_uses m source) _ h) (iteration_block n it b rest) cs
        ∙ on rest _ _ (ap (λ x. block_trees s (iteration_instr n it (instr_count b)) (sole x) (source ∷ cs)) in_body
        ∙ iteration_made it (of_first m s.unit n (iteration_uses it) _ after) (instr_count b) body source cs)
    trees_back (tree.Fold x source start body) g k t h rest cs =
        let m = s.model in
        let b = translate m n body code.End in
        let block = fold_block n x b rest in
        let from_start = of_rest m s.unit n (tree_uses m source) _ h in
        let after = of_rest m s.unit n (tree_uses m start) _ from_start in
        let in_body = trees_back body _ t.1.4 t.1.9 (of_rest m s.unit n (scalar_uses x) _ after) code.End [] in
        trees_back source g _ t.1.5 (of_first m s.unit n (tree_uses m source) _ h) (translate m n start block) cs
        ∙ trees_back start g _ t.1.6 (of_first m s.unit n (tree_uses m start) _ from_start) block (source ∷ cs)
        ∙ on rest _ _ (ap (λ y. block_trees s (instrs.Fold (written_scalar n x) (instr_count b)) (sole y) (start ∷ source ∷ cs)) in_body
        ∙ ap (λ y. Some (tree.Fold y source start body ∷ cs)) (scalar_back x (of_first m s.unit n (scalar_uses x) _ after)))
    trees_back (tree.Let v body) g k t h rest cs =
        let m = s.model in
        let b = translate m n body code.End in
        let in_body = trees_back body _ k t.4 (of_rest m s.unit n (tree_uses m v) _ h) code.End [] in
        trees_back v g t.0 t.2 (of_first m s.unit n (tree_uses m v) _ h) (let_block b rest) cs
        ∙ on rest _ _ (ap (λ y. block_trees s (instrs.Let (instr_count b)) (sole y) (v ∷ cs)) in_body)
    trees_back (tree.If kind condition one two) g k t h rest cs =
        let m = s.model in
        let a = translate m n one code.End in
        let b = translate m n two code.End in
        let i = instrs.If (written_kind n kind) (instr_count a) (instr_count b) in
        let after = of_rest m s.unit n (tree_uses m condition) _ h in
        let branches = of_rest m s.unit n (kind_uses kind) _ after in
        let in_one = trees_back one g t.1.1 t.1.5 (of_first m s.unit n (tree_uses m one) _ branches) code.End [] in
        let in_two = trees_back two g t.1.2 t.1.7 (of_rest m s.unit n (tree_uses m one) _ branches) code.End [] in
        trees_back condition g t.1.0 t.1.3 (of_first m s.unit n (tree_uses m condition) _ h) (if_block n kind a b rest) cs
        ∙ on rest _ _ (ap (λ y. branch_trees s i (sole y) (sole (trees_after s b [])) (condition ∷ cs)) in_one
        ∙ ap (λ y. branch_trees s i (Some one) (sole y) (condition ∷ cs)) in_two
        ∙ ap (λ y. Some (tree.If y condition one two ∷ cs)) (kind_back kind (of_first m s.unit n (kind_uses kind) _ after)))

    all_back : (ts : CoreTrees) (g : List Kind) (ks : List Kind) → AreTyped s.model g ts ks → AreUsesResolved s.model s.unit n (trees_uses s.model ts) → (rest : CodeTree) (cs : List CoreTree)
        → trees_after s (translate_all s.model n ts rest) cs ≡ trees_after s rest (stacked_trees ts cs)
    all_back no_core g ks t h rest cs = refl
    all_back (one_core one others) g ks t h rest cs =
        let m = s.model in
        trees_back one g t.0 t.2 (of_first m s.unit n (tree_uses m one) _ h) (translate_all m n others rest) cs
        ∙ all_back others g t.1 t.3 (of_rest m s.unit n (tree_uses m one) _ h) rest (one ∷ cs)

-- the law
pub translating_is_undone : TranslatingIsUndone
translating_is_undone s n g t k rest cs typed known = trees_back s n t g k typed known rest cs
