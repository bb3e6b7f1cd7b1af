-- The extent of a core tree is that of its code.
use Rattle.std.proofs.Common.{◌≡◌, ℕ, zero, suc, ◌+◌, ◌-◌, ◌<◌, ◌≤◌, ◌||◌, max, Bool, true, false, Option, Some, None, if◌then◌else◌, List, length, refl, sym, ap, ◌∙◌, arith}
use Rattle.std.specs.Prelude.{min, nat_le, nat_lt}
use Rattle.std.proofs.lemmas.Bool.{lt-ltb, le-ltb, ltb-true, ltb-false}
use Rattle.imkl_model.specs.ClassModel.{Model}
use Rattle.ocl_kinds.specs.declared.kind.ScalarKind.{ScalarKind}
use Rattle.ocl_kinds.specs.declared.kind.Kind.{Kind}
use Rattle.ocl_core.specs.declared.operator.PlainOperator.{PlainOperator}
use Rattle.ocl_core.specs.declared.operator.PlainOperator.TheVariants as plain
use Rattle.ocl_core.specs.declared.operator.ClassOperator.TheVariants as of_class
use Rattle.ocl_core.specs.declared.operator.ElementOperator.TheVariants as of_elements
use Rattle.ocl_core.specs.declared.operator.Operator.{Operator}
use Rattle.ocl_core.specs.declared.operator.Operator.TheVariants.{Plain, OfClass, OfElements, Equal}
use Rattle.ocl_core.specs.declared.core_tree.Iteration.{Iteration}
use Rattle.ocl_core.specs.declared.core_tree.Iteration.TheVariants as iteration
use Rattle.ocl_core.specs.Core as tree
use Rattle.ocl_core.specs.Core.{Constant, CoreTree, CoreTrees, CheckedRule}
use Rattle.ocl_core.specs.Typing.{plain_operands, IsTyped, AreTyped, IsTypedRule}
use Rattle.rule_code.specs.declared.instruction.Instr.{Instr}
use Rattle.rule_code.specs.declared.instruction.Instr.TheVariants as instrs
use Rattle.rule_verify.specs.declared.depths.Depths.{Depths}
use Rattle.rule_verify.specs.CodeTree as code
use Rattle.rule_verify.specs.CodeTree.{CodeTree, instr_count}
use Rattle.rule_verify.specs.CodeDepths.{past_instr, in_binding, in_branch, deepest}
use Rattle.rule_verify.specs.declared.limits.TheConstants.{MAX_BLOCKS, MAX_OPERANDS}
use Rattle.rule_code.specs.declared.limits.TheConstants.{MAX_RULES}
use Rattle.ocl_compile.specs.declared.limits.TheConstants.{MAX_COUNTED}
use Rattle.rule_verify.specs.InstrKinds.{Surroundings, surroundings, operands_of}
use Rattle.rule_verify.specs.declared.named.Named.TheVariants as named
use Rattle.ocl_compile.specs.Numbering.{Numbering, owned_feature, rule_uses, numbering_of}
use Rattle.ocl_compile.specs.Translation.{symbol_of_unit, written_scalar, written_kind, constant_instr, variable_instr, plain_instr, operator_instr, iteration_instr, translate_rules, iteration_block, fold_block, let_block, if_block, translate, translate_all}
use Rattle.ocl_compile.specs.Compiling.{has_long_text, numbering_so_far, compiled_tree, compiled_depths, is_too_large, limit_passed}
use Rattle.ocl_compile.specs.declared.fault.Limit.{Limit}
use Rattle.ocl_compile.specs.declared.fault.Limit.TheVariants as limits
use Rattle.ocl_compile.proofs.Operating.{operand_count, operands_counted}
use Rattle.ocl_compile.specs.NumberWalk.{AreCounted}
use Rattle.ocl_compile.specs.Extents.{extent_of, extent_after, then_above, cut_extent, limit_by}
use Rattle.ocl_compile.specs.declared.extent.Extent.{Extent}

module _ (m : Model) (n : Numbering) where
  -- ---- instructions

  mutual
    -- in front of other code, the code of a tree has as many instructions as its extent says
    pub count_is : (t : CoreTree) (rest : CodeTree) → instr_count (translate m n t rest) ≡ (extent_of t).instructions + instr_count rest
    count_is (tree.Value c) rest = refl
    count_is (tree.Variable v) rest = refl
    count_is (tree.AllInstances c) rest = refl
    count_is (tree.Feature source f) rest =
        omega (arith, count_is source (code.Plain (instrs.Attr (symbol_of_unit n (owned_feature m f))) rest))
    count_is (tree.Operation operator first others) rest =
        let last = code.Plain (operator_instr n operator) rest in
        omega (arith, count_is first (translate_all m n others last), counts_are others last 1 (extent_of first))
    count_is (tree.AsCollection c k source) rest =
        omega (arith, count_is source (code.Plain (instrs.AsColl c (written_scalar n k)) rest))
    count_is (tree.Iterate it source body) rest =
        omega (arith, count_is source (iteration_block n it (translate m n body code.End) rest), count_is body code.End)
    count_is (tree.Fold k source start body) rest =
        let block = fold_block n k (translate m n body code.End) rest in
        omega (arith, count_is source (translate m n start block), count_is start block, count_is body code.End)
    count_is (tree.Let v body) rest =
        omega (arith, count_is v (let_block (translate m n body code.End) rest), count_is body code.End)
    count_is (tree.If k condition first second) rest =
        omega (arith, count_is condition (if_block n k (translate m n first code.End) (translate m n second code.End) rest), count_is first code.End, count_is second code.End)

    counts_are : (ts : CoreTrees) (rest : CodeTree) (below : ℕ) (x : Extent) → x.instructions + instr_count (translate_all m n ts rest) ≡ (extent_after below x ts).instructions + instr_count rest
    counts_are tree.no_core rest below x = refl
    counts_are (tree.one_core first others) rest below x =
        omega (arith, count_is first (translate_all m n others rest), counts_are others rest (suc below) (then_above below x (extent_of first)))

-- ---- depths of code, each by itself

max_two : (o a b c d : ℕ) → a ≡ c → b ≡ d → max o (max a b) ≡ max o (max c d)
max_two o a b c d e f = omega (arith, e, f)

max_three : (o a b c x y z : ℕ) → a ≡ x → b ≡ y → c ≡ z → max o (max a (max b c)) ≡ max o (max x (max y z))
max_three o a b c x y z e f g = omega (arith, e, f, g)

module _ (s : Surroundings) where
  -- the most operands in code that begins with so many
  abbrev pub most_operands : CodeTree → ℕ → ℕ
  most_operands code.End o = o
  most_operands (code.Plain i rest) o = max o (most_operands rest (o - length (operands_of s i) + 1))
  most_operands (code.Block i body rest) o =
      max o (max (most_operands body (o - length (operands_of s i))) (most_operands rest (o - length (operands_of s i) + 1)))
  most_operands (code.Branch i first second rest) o =
      max o (max (most_operands first (o - length (operands_of s i))) (max (most_operands second (o - length (operands_of s i))) (most_operands rest (o - length (operands_of s i) + 1))))
  most_operands (code.Torn i left) o = o

  -- the operand depth of code is the most operands in it
  pub operands_are : (t : CodeTree) (d : Depths) → (deepest s t d).operands ≡ most_operands t d.operands
  operands_are code.End d = refl
  operands_are (code.Plain i rest) d = ap (max d.operands) (operands_are rest (past_instr s i d))
  operands_are (code.Block i body rest) d =
      max_two d.operands _ _ _ _ (operands_are body (in_binding s i d)) (operands_are rest (past_instr s i d))
  operands_are (code.Branch i first second rest) d =
      max_three d.operands _ _ _ _ _ _ (operands_are first (in_branch s i d)) (operands_are second (in_branch s i d)) (operands_are rest (past_instr s i d))
  operands_are (code.Torn i left) d = refl

  -- the most blocks in one another in code that stands in so many
  abbrev pub most_blocks : CodeTree → ℕ → ℕ
  most_blocks code.End b = b
  most_blocks (code.Plain i rest) b = max b (most_blocks rest b)
  most_blocks (code.Block i body rest) b = max b (max (most_blocks body (b + 1)) (most_blocks rest b))
  most_blocks (code.Branch i first second rest) b =
      max b (max (most_blocks first (b + 1)) (max (most_blocks second (b + 1)) (most_blocks rest b)))
  most_blocks (code.Torn i left) b = b

  -- and its block depth is the most blocks in one another
  pub blocks_are : (t : CodeTree) (d : Depths) → (deepest s t d).blocks ≡ most_blocks t d.blocks
  blocks_are code.End d = refl
  blocks_are (code.Plain i rest) d = ap (max d.blocks) (blocks_are rest (past_instr s i d))
  blocks_are (code.Block i body rest) d =
      max_two d.blocks _ _ _ _ (blocks_are body (in_binding s i d)) (blocks_are rest (past_instr s i d))
  blocks_are (code.Branch i first second rest) d =
      max_three d.blocks _ _ _ _ _ _ (blocks_are first (in_branch s i d)) (blocks_are second (in_branch s i d)) (blocks_are rest (past_instr s i d))
  blocks_are (code.Torn i left) d = refl

  -- no less than what it begins with
  begins_with_operands : (t : CodeTree) (o : ℕ) → o ≤ most_operands t o
  begins_with_operands code.End o = omega arith
  begins_with_operands (code.Plain i rest) o = omega arith
  begins_with_operands (code.Block i body rest) o = omega arith
  begins_with_operands (code.Branch i first second rest) o = omega arith
  begins_with_operands (code.Torn i left) o = omega arith

-- ---- the depths of the code of core trees

-- code has an operand, and no more of anything than instructions
pub record IsExtent (x : Extent) : Type 0 where
  pub operand : 1 ≤ x.operands
  pub instruction : 1 ≤ x.instructions
  pub operands : x.operands ≤ x.instructions
  pub blocks : x.blocks ≤ x.instructions

mutual
  -- the extent of each tree is so
  pub is_extent : (t : CoreTree) → IsExtent (extent_of t)
  is_extent (tree.Value c) = record { operand = omega arith; instruction = omega arith; operands = omega arith; blocks = omega arith }
  is_extent (tree.Variable v) = record { operand = omega arith; instruction = omega arith; operands = omega arith; blocks = omega arith }
  is_extent (tree.AllInstances c) = record { operand = omega arith; instruction = omega arith; operands = omega arith; blocks = omega arith }
  is_extent (tree.Feature source f) =
      let x = is_extent source in
      record { operand = x.operand; instruction = omega arith; operands = omega (arith, x.operands); blocks = omega (arith, x.blocks) }
  is_extent (tree.Operation operator first others) =
      let x = is_extent first in
      let y = are_extents others 1 (extent_of first) x x.instruction in
      record { operand = y.operand; instruction = omega arith; operands = omega (arith, y.operands); blocks = omega (arith, y.blocks) }
  is_extent (tree.AsCollection c k source) =
      let x = is_extent source in
      record { operand = x.operand; instruction = omega arith; operands = omega (arith, x.operands); blocks = omega (arith, x.blocks) }
  is_extent (tree.Iterate it source body) =
      let x = is_extent source in
      let y = is_extent body in
      record { operand = omega (arith, x.operand); instruction = omega arith; operands = omega (arith, x.operands, y.operands); blocks = omega (arith, x.blocks, y.blocks) }
  is_extent (tree.Fold k source start body) =
      let x = is_extent source in
      let z = is_extent start in
      let y = is_extent body in
      record { operand = omega (arith, x.operand); instruction = omega arith; operands = omega (arith, x.operands, z.operands, y.operands, x.instruction); blocks = omega (arith, x.blocks, z.blocks, y.blocks) }
  is_extent (tree.Let v body) =
      let x = is_extent v in
      let y = is_extent body in
      record { operand = omega (arith, x.operand); instruction = omega arith; operands = omega (arith, x.operands, y.operands); blocks = omega (arith, x.blocks, y.blocks) }
  is_extent (tree.If k condition first second) =
      let x = is_extent condition in
      let y = is_extent first in
      let z = is_extent second in
      record { operand = omega (arith, x.operand); instruction = omega arith; operands = omega (arith, x.operands, y.operands, z.operands); blocks = omega (arith, x.blocks, y.blocks, z.blocks) }

  -- and stays so with operands after it
  pub are_extents : (ts : CoreTrees) (below : ℕ) (x : Extent) → IsExtent x → below ≤ x.instructions → IsExtent (extent_after below x ts)
  are_extents tree.no_core below x h le = h
  are_extents (tree.one_core first others) below x h le =
      let y = is_extent first in
      are_extents others (suc below) (then_above below x (extent_of first))
      (record { operand = omega (arith, h.operand); instruction = omega (arith, h.instruction); operands = omega (arith, h.operands, y.operands, le); blocks = omega (arith, h.blocks, y.blocks) })
      (omega (arith, le, y.instruction))

-- how many trees
abbrev pub tree_count : CoreTrees → ℕ
tree_count tree.no_core = 0
tree_count (tree.one_core first rest) = suc (tree_count rest)

-- operands one after another need as many places
places_for : (ts : CoreTrees) (below : ℕ) (x : Extent) → below ≤ x.operands → below + tree_count ts ≤ (extent_after below x ts).operands
places_for tree.no_core below x le = omega (arith, le)
places_for (tree.one_core first others) below x le =
    let y = (is_extent first).operand in
    omega (arith, places_for others (suc below) (then_above below x (extent_of first)) (omega (arith, y)))

-- ---- code of core trees

module _ (s : Surroundings) (n : Numbering) where
  constant_takes_none : (c : Constant) → length (operands_of s (constant_instr n c)) ≡ 0
  constant_takes_none (tree.Boolean b) = refl
  constant_takes_none (tree.Integer i) = refl
  constant_takes_none (tree.Text t) = refl
  constant_takes_none (tree.Literal e l) = refl
  constant_takes_none tree.Null = refl
  constant_takes_none tree.Invalid = refl

  variable_takes_none : (v : ℕ) → length (operands_of s (variable_instr v)) ≡ 0
  variable_takes_none zero = refl
  variable_takes_none (suc v) = refl

  plain_takes : (operator : PlainOperator) → length (operands_of s (plain_instr operator)) ≡ length (plain_operands operator)
  plain_takes plain.Add = refl
  plain_takes plain.Subtract = refl
  plain_takes plain.Multiply = refl
  plain_takes plain.Divide = refl
  plain_takes plain.Modulo = refl
  plain_takes plain.Minimum = refl
  plain_takes plain.Maximum = refl
  plain_takes plain.Negate = refl
  plain_takes plain.Absolute = refl
  plain_takes plain.Less = refl
  plain_takes plain.LessEqual = refl
  plain_takes plain.Greater = refl
  plain_takes plain.GreaterEqual = refl
  plain_takes plain.CharacterCount = refl
  plain_takes plain.Substring = refl
  plain_takes plain.Not = refl
  plain_takes plain.And = refl
  plain_takes plain.Or = refl
  plain_takes plain.Xor = refl
  plain_takes plain.Implies = refl
  plain_takes plain.IsUndefined = refl
  plain_takes plain.IsInvalid = refl
  plain_takes plain.BothNull = refl
  plain_takes plain.ElementCount = refl
  plain_takes plain.IsEmpty = refl
  plain_takes plain.Sum = refl

  operator_takes : (operator : Operator) → length (operands_of s (operator_instr n operator)) ≡ operand_count operator
  operator_takes (Plain operator) = plain_takes operator
  operator_takes (OfClass of_class.IsKindOf c) = refl
  operator_takes (OfClass of_class.IsTypeOf c) = refl
  operator_takes (OfClass of_class.AsType c) = refl
  operator_takes (OfElements of_elements.Includes k) = refl
  operator_takes (OfElements of_elements.Occurrences k) = refl
  operator_takes (OfElements of_elements.IncludesAll k) = refl
  operator_takes (OfElements of_elements.ExcludesAll k) = refl
  operator_takes (OfElements of_elements.AsSet k) = refl
  operator_takes (Equal k) = refl

  iteration_takes_one : (it : Iteration) (len : ℕ) → length (operands_of s (iteration_instr n it len)) ≡ 1
  iteration_takes_one iteration.ForAll len = refl
  iteration_takes_one iteration.Exists len = refl
  iteration_takes_one iteration.One len = refl
  iteration_takes_one iteration.Select len = refl
  iteration_takes_one iteration.Reject len = refl
  iteration_takes_one iteration.Collect len = refl
  iteration_takes_one iteration.CollectFlat len = refl
  iteration_takes_one (iteration.IsUnique k) len = refl

  -- ---- operands

  past_plain_operands : (i : Instr) (rest : CodeTree) (o q : ℕ) → q ≡ o + length (operands_of s i) → most_operands s (code.Plain i rest) q ≡ max q (most_operands s rest (o + 1))
  past_plain_operands i rest o q e =
      let left : q - length (operands_of s i) + 1 ≡ o + 1 = omega (arith, e) in
      ap (λ j. max q (most_operands s rest j)) left

  past_block_operands : (i : Instr) (body rest : CodeTree) (o : ℕ) → length (operands_of s i) ≡ 1 → most_operands s (code.Block i body rest) (o + 1) ≡ max (o + 1) (max (most_operands s body o) (most_operands s rest (o + 1)))
  past_block_operands i body rest o one =
      let left : o + 1 - length (operands_of s i) ≡ o = omega (arith, one) in
      ap (λ j. max (o + 1) (max (most_operands s body j) (most_operands s rest (j + 1)))) left

  past_fold_operands : (e : ScalarKind) (len : ℕ) (body rest : CodeTree) (o : ℕ) → most_operands s (code.Block (instrs.Fold (written_scalar n e) len) body rest) (o + 1 + 1) ≡ max (o + 1 + 1) (max (most_operands s body o) (most_operands s rest (o + 1)))
  past_fold_operands e len body rest o =
      let left : o + 1 + 1 - length (operands_of s (instrs.Fold (written_scalar n e) len)) ≡ o = omega arith in
      ap (λ j. max (o + 1 + 1) (max (most_operands s body j) (most_operands s rest (j + 1)))) left

  past_branch_operands : (i : Instr) (first second rest : CodeTree) (o : ℕ) → length (operands_of s i) ≡ 1 → most_operands s (code.Branch i first second rest) (o + 1) ≡ max (o + 1) (max (most_operands s first o) (max (most_operands s second o) (most_operands s rest (o + 1))))
  past_branch_operands i first second rest o one =
      let left : o + 1 - length (operands_of s i) ≡ o = omega (arith, one) in
      ap (λ j. max (o + 1) (max (most_operands s first j) (max (most_operands s second j) (most_operands s rest (j + 1))))) left

  one_operand_more : (i : Instr) (rest : CodeTree) (o : ℕ) → length (operands_of s i) ≡ 0 → most_operands s (code.Plain i rest) o ≡ max (o + 1) (most_operands s rest (o + 1))
  one_operand_more i rest o none = omega (arith, past_plain_operands i rest o o (omega (arith, none)), begins_with_operands s rest (o + 1))

  counted_trees : (g : List Kind) (ts : CoreTrees) (ks : List Kind) → AreTyped s.model g ts ks → tree_count ts ≡ length ks
  counted_trees g tree.no_core ks t = ap (λ (l : List Kind). length l) (sym t)
  counted_trees g (tree.one_core first rest) ks t = ap suc (counted_trees g rest t.1 t.3) ∙ ap (λ (l : List Kind). length l) (sym t.4)

  mutual
    -- in front of other code, the code of a typed tree has as many operands as its extent says, and leaves one
    pub tree_operands : (t : CoreTree) (g : List Kind) (k : Kind) → IsTyped s.model g t k → (rest : CodeTree) (o : ℕ) → most_operands s (translate s.model n t rest) o ≡ max (o + (extent_of t).operands) (most_operands s rest (o + 1))
    tree_operands (tree.Value c) g k t rest o = one_operand_more (constant_instr n c) rest o (constant_takes_none c)
    tree_operands (tree.Variable v) g k t rest o = one_operand_more (variable_instr v) rest o (variable_takes_none v)
    tree_operands (tree.AllInstances c) g k t rest o = one_operand_more (instrs.All (symbol_of_unit n (named.Class c))) rest o refl
    tree_operands (tree.Feature source f) g k t rest o =
        let i = instrs.Attr (symbol_of_unit n (owned_feature s.model f)) in
        let a = tree_operands source g t.1.0 t.1.1 (code.Plain i rest) o in
        let b = past_plain_operands i rest o (o + 1) refl in
        omega (arith, a, b, (is_extent source).operand)
    tree_operands (tree.Operation operator first others) g k t rest o =
        let i = operator_instr n operator in
        let last = code.Plain i rest in
        let a = tree_operands first g t.0 t.2 (translate_all s.model n others last) o in
        let b = trees_operands others g t.1 t.3 last o 1 (extent_of first) in
        let counted : suc (tree_count others) ≡ length (operands_of s i) = ap suc (counted_trees g others t.1 t.3) ∙ operands_counted s.model operator t.0 t.1 k t.4 ∙ sym (operator_takes operator) in
        let c = past_plain_operands i rest o (o + 1 + tree_count others) (omega (arith, counted)) in
        let d = places_for others 1 (extent_of first) (is_extent first).operand in
        omega (arith, a, b, c, d)
    tree_operands (tree.AsCollection c e source) g k t rest o =
        let i = instrs.AsColl c (written_scalar n e) in
        let a = tree_operands source g t.1.0 t.1.1 (code.Plain i rest) o in
        let b = past_plain_operands i rest o (o + 1) refl in
        omega (arith, a, b, (is_extent source).operand)
    tree_operands (tree.Iterate it source body) g k t rest o =
        let b = translate s.model n body code.End in
        let i = iteration_instr n it (instr_count b) in
        let x = tree_operands source g _ t.4 (code.Block i b rest) o in
        let y = past_block_operands i b rest o (iteration_takes_one it (instr_count b)) in
        let z = tree_operands body _ t.3 t.6 code.End o in
        omega (arith, x, y, z, (is_extent source).operand, (is_extent body).operand, begins_with_operands s rest (o + 1))
    tree_operands (tree.Fold e source start body) g k t rest o =
        let b = translate s.model n body code.End in
        let i = instrs.Fold (written_scalar n e) (instr_count b) in
        let block = code.Block i b rest in
        let x = tree_operands source g _ t.1.5 (translate s.model n start block) o in
        let z = tree_operands start g _ t.1.6 block (o + 1) in
        let y = past_fold_operands e (instr_count b) b rest o in
        let w = tree_operands body _ t.1.4 t.1.9 code.End o in
        omega (arith, x, z, y, w, (is_extent source).operand, (is_extent start).operand, (is_extent body).operand, begins_with_operands s rest (o + 1))
    tree_operands (tree.Let v body) g k t rest o =
        let b = translate s.model n body code.End in
        let i = instrs.Let (instr_count b) in
        let x = tree_operands v g t.0 t.2 (code.Block i b rest) o in
        let y = past_block_operands i b rest o refl in
        let z = tree_operands body _ k t.4 code.End o in
        omega (arith, x, y, z, (is_extent v).operand, (is_extent body).operand, begins_with_operands s rest (o + 1))
    tree_operands (tree.If kind condition first second) g k t rest o =
        let a = translate s.model n first code.End in
        let b = translate s.model n second code.End in
        let i = instrs.If (written_kind n kind) (instr_count a) (instr_count b) in
        let x = tree_operands condition g t.1.0 t.1.3 (code.Branch i a b rest) o in
        let y = past_branch_operands i a b rest o refl in
        let p = tree_operands first g t.1.1 t.1.5 code.End o in
        let q = tree_operands second g t.1.2 t.1.7 code.End o in
        omega (arith, x, y, p, q, (is_extent condition).operand, (is_extent first).operand, (is_extent second).operand, begins_with_operands s rest (o + 1))

    trees_operands : (ts : CoreTrees) (g ks : List Kind) → AreTyped s.model g ts ks → (rest : CodeTree) (o below : ℕ) (x : Extent)
        → max (o + x.operands) (most_operands s (translate_all s.model n ts rest) (o + below)) ≡ max (o + (extent_after below x ts).operands) (most_operands s rest (o + below + tree_count ts))
    trees_operands tree.no_core g ks t rest o below x = let same : o + below + 0 ≡ o + below = omega arith in ap (λ j. max (o + x.operands) (most_operands s rest j)) (sym same)
    trees_operands (tree.one_core first others) g ks t rest o below x =
        let a = tree_operands first g t.0 t.2 (translate_all s.model n others rest) (o + below) in
        let b = trees_operands others g t.1 t.3 rest o (suc below) (then_above below x (extent_of first)) in
        let next : o + below + 1 ≡ o + suc below = omega arith in
        let c = ap (most_operands s (translate_all s.model n others rest)) next in
        let last : o + suc below + tree_count others ≡ o + below + suc (tree_count others) = omega arith in
        let d = ap (most_operands s rest) last in
        omega (arith, a, b, c, d)

  -- ---- blocks

  mutual
    -- and the code of a tree has as many blocks in one another as its extent says
    pub tree_blocks : (t : CoreTree) (rest : CodeTree) (b : ℕ) → most_blocks s (translate s.model n t rest) b ≡ max (b + (extent_of t).blocks) (most_blocks s rest b)
    tree_blocks (tree.Value c) rest b = omega arith
    tree_blocks (tree.Variable v) rest b = omega arith
    tree_blocks (tree.AllInstances c) rest b = omega arith
    tree_blocks (tree.Feature source f) rest b =
        omega (arith, tree_blocks source (code.Plain (instrs.Attr (symbol_of_unit n (owned_feature s.model f))) rest) b)
    tree_blocks (tree.Operation operator first others) rest b =
        let last = code.Plain (operator_instr n operator) rest in
        omega (arith, tree_blocks first (translate_all s.model n others last) b, trees_blocks others last b 1 (extent_of first))
    tree_blocks (tree.AsCollection c e source) rest b = omega (arith, tree_blocks source (code.Plain (instrs.AsColl c (written_scalar n e)) rest) b)
    tree_blocks (tree.Iterate it source body) rest b =
        omega (arith, tree_blocks source (iteration_block n it (translate s.model n body code.End) rest) b, tree_blocks body code.End (b + 1))
    tree_blocks (tree.Fold k source start body) rest b =
        let block = fold_block n k (translate s.model n body code.End) rest in
        omega (arith, tree_blocks source (translate s.model n start block) b, tree_blocks start block b, tree_blocks body code.End (b + 1))
    tree_blocks (tree.Let v body) rest b =
        omega (arith, tree_blocks v (let_block (translate s.model n body code.End) rest) b, tree_blocks body code.End (b + 1))
    tree_blocks (tree.If k condition first second) rest b =
        omega (arith, tree_blocks condition (if_block n k (translate s.model n first code.End) (translate s.model n second code.End) rest) b, tree_blocks first code.End (b + 1), tree_blocks second code.End (b + 1))

    trees_blocks : (ts : CoreTrees) (rest : CodeTree) (b below : ℕ) (x : Extent) → max (b + x.blocks) (most_blocks s (translate_all s.model n ts rest) b) ≡ max (b + (extent_after below x ts).blocks) (most_blocks s rest b)
    trees_blocks tree.no_core rest b below x = refl
    trees_blocks (tree.one_core first others) rest b below x =
        omega (arith, tree_blocks first (translate_all s.model n others rest) b, trees_blocks others rest b (suc below) (then_above below x (extent_of first)))

-- ---- rules

module _ (m : Model) (all before : List CheckedRule) (r : CheckedRule) where
  -- the code of a rule has as many instructions as its tree's extent
  pub rule_count_is : instr_count (compiled_tree m all r) ≡ (extent_of r.tree).instructions
  rule_count_is = omega (arith, count_is m (numbering_of m all) r.tree code.End)

  -- and goes as deep
  pub rule_operands_are : IsTypedRule m r → (compiled_depths m all before r).operands ≡ (extent_of r.tree).operands
  rule_operands_are typed =
      let s = surroundings m (translate_rules m all) (length before) r.context in
      omega (arith, operands_are s (compiled_tree m all r) (record { operands = 0; variables = 1; blocks = 0 }), tree_operands s (numbering_of m all) r.tree _ typed.1.0 typed.1.1 code.End 0, (is_extent r.tree).operand)

  -- in blocks too
  pub rule_blocks_are : (compiled_depths m all before r).blocks ≡ (extent_of r.tree).blocks
  rule_blocks_are =
      let s = surroundings m (translate_rules m all) (length before) r.context in
      omega (arith, blocks_are s (compiled_tree m all r) (record { operands = 0; variables = 1; blocks = 0 }), tree_blocks s (numbering_of m all) r.tree code.End 0)

-- a number cut above a limit passes it as the number does
cut_passes : (limit n : ℕ) → limit < 65536 → nat_lt limit (min n 65536) ≡ nat_lt limit n
cut_passes limit n below = by_test (nat_lt limit n) refl
  where
    by_test : (b : Bool) → nat_lt limit n ≡ b → nat_lt limit (min n 65536) ≡ b
    by_test true e = lt-ltb limit (min n 65536) (omega (arith, below, ltb-true limit n e))
    by_test false e = le-ltb limit (min n 65536) (omega (arith, ltb-false limit n e))

not_these : (a b : Bool) → (a || false || false || false || b) ≡ (a || b)
not_these true b = refl
not_these false b = refl

-- the limit that a typed rule passes, by its measures, where a unit takes what it numbers
pub limit_is : (m : Model) (all before : List CheckedRule) (r : CheckedRule) → IsTypedRule m r → AreCounted (numbering_so_far m before r) → has_long_text m (rule_uses m r) ≡ false → limit_passed m all before r ≡ limit_by (length before) (cut_extent (extent_of r.tree))
limit_is m all before r typed counted short =
    let n = numbering_so_far m before r in
    let many = nat_le MAX_RULES (length before) in
    let size : Bool → Bool → Bool → Bool → Bool = λ t s l i. many || t || s || l || i in
    let by : Bool → Bool → Bool → Option Limit = λ a b c. if a then Some limits.Size else (if b then Some limits.Nesting else (if c then Some limits.Stack else None)) in
    let x = extent_of r.tree in
    let d = compiled_depths m all before r in
    let long = nat_lt MAX_COUNTED (min x.instructions 65536) in
    let a : nat_lt MAX_COUNTED (instr_count (compiled_tree m all r)) ≡ long = ap (nat_lt MAX_COUNTED) (rule_count_is m all before r) ∙ sym (cut_passes MAX_COUNTED x.instructions (omega arith)) in
    let b : nat_lt MAX_BLOCKS d.blocks ≡ nat_lt MAX_BLOCKS (min x.blocks 65536) = ap (nat_lt MAX_BLOCKS) (rule_blocks_are m all before r) ∙ sym (cut_passes MAX_BLOCKS x.blocks (omega arith)) in
    let c : nat_lt MAX_OPERANDS d.operands ≡ nat_lt MAX_OPERANDS (min x.operands 65536) = ap (nat_lt MAX_OPERANDS) (rule_operands_are m all before r typed) ∙ sym (cut_passes MAX_OPERANDS x.operands (omega arith)) in
    let large : is_too_large m all before r ≡ (many || long) =
    ap (λ (t : Bool). size t (nat_lt MAX_COUNTED (length n.symbols)) (has_long_text m (rule_uses m r)) (nat_lt MAX_COUNTED (instr_count (compiled_tree m all r)))) (le-ltb MAX_COUNTED (length n.texts) counted.0)
    ∙ ap (λ (t : Bool). size false t (has_long_text m (rule_uses m r)) (nat_lt MAX_COUNTED (instr_count (compiled_tree m all r)))) (le-ltb MAX_COUNTED (length n.symbols) counted.1)
    ∙ ap (λ (t : Bool). size false false t (nat_lt MAX_COUNTED (instr_count (compiled_tree m all r)))) short
    ∙ ap (size false false false) a
    ∙ not_these many long in
    ap (λ (t : Bool). by t (nat_lt MAX_BLOCKS d.blocks) (nat_lt MAX_OPERANDS d.operands)) large
    ∙ ap (λ (t : Bool). by (many || long) t (nat_lt MAX_OPERANDS d.operands)) b
    ∙ ap (λ (t : Bool). by (many || long) (nat_lt MAX_BLOCKS (min x.blocks 65536)) t) c
