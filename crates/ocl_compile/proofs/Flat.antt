-- Code trees whose blocks know the lengths of their bodies are the trees of their instructions; so are those of core trees.
use Rattle.std.proofs.Common.{◌≡◌, ℕ, zero, suc, ◌+◌, Bool, true, List, ◌++◌, length, take, drop, refl, ap, ◌∙◌, subst, arith, length-append}
use Rattle.std.specs.Prelude.{nat_le, if◌then◌else◌}
use Rattle.std.proofs.lemmas.Bool.{le-leb}
use Rattle.std.proofs.Math.Seq.{take-append_seam, drop-append_seam, drop-append-add}
use Rattle.imkl_model.specs.ClassModel.{Model}
use Rattle.ocl_core.specs.declared.operator.PlainOperator.{PlainOperator}
use Rattle.ocl_core.specs.declared.operator.PlainOperator.TheVariants as plain
use Rattle.ocl_core.specs.declared.operator.ClassOperator.TheVariants as of_class
use Rattle.ocl_core.specs.declared.operator.ElementOperator.TheVariants as of_elements
use Rattle.ocl_core.specs.declared.operator.Operator.{Operator}
use Rattle.ocl_core.specs.declared.operator.Operator.TheVariants.{Plain, OfClass, OfElements, Equal}
use Rattle.ocl_core.specs.declared.core_tree.Iteration.{Iteration}
use Rattle.ocl_core.specs.declared.core_tree.Iteration.TheVariants as iteration
use Rattle.ocl_core.specs.Core as tree
use Rattle.ocl_core.specs.Core.{Constant, CoreTree, CoreTrees}
use Rattle.rule_code.specs.declared.instruction.Instr.{Instr}
use Rattle.rule_verify.specs.declared.shape.Shape.{Shape}
use Rattle.rule_verify.specs.declared.shape.Shape.TheVariants.{Single, OneBody, TwoBodies}
use Rattle.rule_verify.specs.CodeTree as code
use Rattle.rule_verify.specs.CodeTree.{CodeTree, shape_of, instr_count, cut_one, code_tree}
use Rattle.rule_verify.proofs.ForAbove.{tree_cons}
use Rattle.ocl_compile.specs.Numbering.{Numbering}
use Rattle.ocl_compile.specs.Translation.{constant_instr, variable_instr, plain_instr, operator_instr, iteration_instr, translate, translate_all, instrs_of}

-- each instruction has the shape of its node, with the lengths of its bodies
abbrev pub IsCut : CodeTree → Type 0
IsCut code.End = Unit {0}
IsCut (code.Plain i rest) = (shape_of i ≡ Single) × IsCut rest
IsCut (code.Block i body rest) = (shape_of i ≡ OneBody (instr_count body)) × IsCut body × IsCut rest
IsCut (code.Branch i first second rest) =
    (shape_of i ≡ TwoBodies (instr_count first) (instr_count second)) × IsCut first × IsCut second × IsCut rest
IsCut (code.Torn i left) = ⊥

-- a tree has as many instructions as it counts
pub flat_count : (t : CodeTree) → IsCut t → length (instrs_of t) ≡ instr_count t
flat_count code.End c = refl
flat_count (code.Plain i rest) c = omega (arith, flat_count rest c.1)
flat_count (code.Block i body rest) c =
    omega (arith, length-append (instrs_of body) (instrs_of rest), flat_count body c.1, flat_count rest c.2)
flat_count (code.Branch i first second rest) c =
    omega (arith, length-append (instrs_of first) (instrs_of second ++ instrs_of rest), length-append (instrs_of second) (instrs_of rest), flat_count first c.1, flat_count second c.2, flat_count rest c.3)
flat_count (code.Torn i left) c = absurd c

-- a list of two parts is cut between them
cut_two : (i : Instr) (xs ys : List Instr) (n : ℕ) → length xs ≡ n → cut_one code_tree i (OneBody n) (xs ++ ys) ≡ code.Block i (code_tree xs) (code_tree ys)
cut_two i xs ys n e =
    let fits : nat_le (length xs) (length (xs ++ ys)) ≡ true = le-leb (length xs) (length (xs ++ ys)) (omega (arith, length-append xs ys)) in
    subst (λ k. cut_one code_tree i (OneBody k) (xs ++ ys) ≡ code.Block i (code_tree xs) (code_tree ys)) e
    (ap (λ (b : Bool). if b then code.Block i (code_tree (take (length xs) (xs ++ ys))) (code_tree (drop (length xs) (xs ++ ys))) else code.Torn i (length (xs ++ ys))) fits
    ∙ ap (λ l. code.Block i (code_tree l) (code_tree (drop (length xs) (xs ++ ys)))) (take-append_seam xs ys)
    ∙ ap (λ l. code.Block i (code_tree xs) (code_tree l)) (drop-append_seam xs ys))

cut_three : (i : Instr) (xs ys zs : List Instr) (n k : ℕ) → length xs ≡ n → length ys ≡ k → cut_one code_tree i (TwoBodies n k) (xs ++ (ys ++ zs)) ≡ code.Branch i (code_tree xs) (code_tree ys) (code_tree zs)
cut_three i xs ys zs n k e f =
    let all = xs ++ (ys ++ zs) in
    let fits : nat_le (length xs + length ys) (length all) ≡ true = le-leb (length xs + length ys) (length all) (omega (arith, length-append xs (ys ++ zs), length-append ys zs)) in
    subst (λ a. cut_one code_tree i (TwoBodies a k) all ≡ code.Branch i (code_tree xs) (code_tree ys) (code_tree zs)) e
    (subst (λ b. cut_one code_tree i (TwoBodies (length xs) b) all ≡ code.Branch i (code_tree xs) (code_tree ys) (code_tree zs)) f
    (ap (λ (b : Bool). if b then code.Branch i (code_tree (take (length xs) all)) (code_tree (take (length ys) (drop (length xs) all))) (code_tree (drop (length xs + length ys) all)) else code.Torn i (length all)) fits
    ∙ ap (λ l. code.Branch i (code_tree l) (code_tree (take (length ys) (drop (length xs) all))) (code_tree (drop (length xs + length ys) all))) (take-append_seam xs (ys ++ zs))
    ∙ ap (λ l. code.Branch i (code_tree xs) (code_tree (take (length ys) l)) (code_tree (drop (length xs + length ys) all))) (drop-append_seam xs (ys ++ zs))
    ∙ ap (λ l. code.Branch i (code_tree xs) (code_tree l) (code_tree (drop (length xs + length ys) all))) (take-append_seam ys zs)
    ∙ ap (λ l. code.Branch i (code_tree xs) (code_tree ys) (code_tree l)) (drop-append-add xs (ys ++ zs) (length ys) ∙ drop-append_seam ys zs)))

-- the tree of a tree's instructions is the tree
pub tree_flat : (t : CodeTree) → IsCut t → code_tree (instrs_of t) ≡ t
tree_flat code.End c = refl
tree_flat (code.Plain i rest) c =
    tree_cons i (instrs_of rest)
    ∙ ap (λ (x : Shape). cut_one code_tree i x (instrs_of rest)) c.0
    ∙ ap (code.Plain i) (tree_flat rest c.1)
tree_flat (code.Block i body rest) c =
    tree_cons i (instrs_of body ++ instrs_of rest)
    ∙ ap (λ (x : Shape). cut_one code_tree i x (instrs_of body ++ instrs_of rest)) c.0
    ∙ cut_two i (instrs_of body) (instrs_of rest) (instr_count body) (flat_count body c.1)
    ∙ ap (λ t. code.Block i t (code_tree (instrs_of rest))) (tree_flat body c.1)
    ∙ ap (code.Block i body) (tree_flat rest c.2)
tree_flat (code.Branch i first second rest) c =
    tree_cons i (instrs_of first ++ (instrs_of second ++ instrs_of rest))
    ∙ ap (λ (x : Shape). cut_one code_tree i x (instrs_of first ++ (instrs_of second ++ instrs_of rest))) c.0
    ∙ cut_three i (instrs_of first) (instrs_of second) (instrs_of rest) (instr_count first) (instr_count second) (flat_count first c.1) (flat_count second c.2)
    ∙ ap (λ t. code.Branch i t (code_tree (instrs_of second)) (code_tree (instrs_of rest))) (tree_flat first c.1)
    ∙ ap (λ t. code.Branch i first t (code_tree (instrs_of rest))) (tree_flat second c.2)
    ∙ ap (code.Branch i first second) (tree_flat rest c.3)
tree_flat (code.Torn i left) c = absurd c

-- ---- the code of core trees

constant_single : (n : Numbering) (c : Constant) → shape_of (constant_instr n c) ≡ Single
constant_single n (tree.Boolean b) = refl
constant_single n (tree.Integer i) = refl
constant_single n (tree.Text t) = refl
constant_single n (tree.Literal e l) = refl
constant_single n tree.Null = refl
constant_single n tree.Invalid = refl

variable_single : (v : ℕ) → shape_of (variable_instr v) ≡ Single
variable_single zero = refl
variable_single (suc v) = refl

plain_single : (operator : PlainOperator) → shape_of (plain_instr operator) ≡ Single
plain_single plain.Add = refl
plain_single plain.Subtract = refl
plain_single plain.Multiply = refl
plain_single plain.Divide = refl
plain_single plain.Modulo = refl
plain_single plain.Minimum = refl
plain_single plain.Maximum = refl
plain_single plain.Negate = refl
plain_single plain.Absolute = refl
plain_single plain.Less = refl
plain_single plain.LessEqual = refl
plain_single plain.Greater = refl
plain_single plain.GreaterEqual = refl
plain_single plain.CharacterCount = refl
plain_single plain.Substring = refl
plain_single plain.Not = refl
plain_single plain.And = refl
plain_single plain.Or = refl
plain_single plain.Xor = refl
plain_single plain.Implies = refl
plain_single plain.IsUndefined = refl
plain_single plain.IsInvalid = refl
plain_single plain.BothNull = refl
plain_single plain.ElementCount = refl
plain_single plain.IsEmpty = refl
plain_single plain.Sum = refl

operator_single : (n : Numbering) (operator : Operator) → shape_of (operator_instr n operator) ≡ Single
operator_single n (Plain operator) = plain_single operator
operator_single n (OfClass of_class.IsKindOf c) = refl
operator_single n (OfClass of_class.IsTypeOf c) = refl
operator_single n (OfClass of_class.AsType c) = refl
operator_single n (OfElements of_elements.Includes k) = refl
operator_single n (OfElements of_elements.Occurrences k) = refl
operator_single n (OfElements of_elements.IncludesAll k) = refl
operator_single n (OfElements of_elements.ExcludesAll k) = refl
operator_single n (OfElements of_elements.AsSet k) = refl
operator_single n (Equal k) = refl

iteration_one_body : (n : Numbering) (it : Iteration) (len : ℕ) → shape_of (iteration_instr n it len) ≡ OneBody len
iteration_one_body n iteration.ForAll len = refl
iteration_one_body n iteration.Exists len = refl
iteration_one_body n iteration.One len = refl
iteration_one_body n iteration.Select len = refl
iteration_one_body n iteration.Reject len = refl
iteration_one_body n iteration.Collect len = refl
iteration_one_body n iteration.CollectFlat len = refl
iteration_one_body n (iteration.IsUnique k) len = refl

module _ (m : Model) (n : Numbering) where
  mutual
    -- a core tree is translated to such a tree, in front of such a tree
    pub translated_cut : (t : CoreTree) (rest : CodeTree) → IsCut rest → IsCut (translate m n t rest)
    translated_cut (tree.Value c) rest h = (constant_single n c, h)
    translated_cut (tree.Variable v) rest h = (variable_single v, h)
    translated_cut (tree.AllInstances c) rest h = (refl, h)
    translated_cut (tree.Feature source f) rest h = translated_cut source _ (refl, h)
    translated_cut (tree.Operation operator first others) rest h =
        translated_cut first _ (all_cut others _ (operator_single n operator, h))
    translated_cut (tree.AsCollection c k source) rest h = translated_cut source _ (refl, h)
    translated_cut (tree.Iterate it source body) rest h =
        translated_cut source _ (iteration_one_body n it (instr_count (translate m n body code.End)), translated_cut body code.End tt, h)
    translated_cut (tree.Fold k source start body) rest h = translated_cut source _ (translated_cut start _ (refl, translated_cut body code.End tt, h))
    translated_cut (tree.Let v body) rest h = translated_cut v _ (refl, translated_cut body code.End tt, h)
    translated_cut (tree.If k condition first second) rest h =
        translated_cut condition _ (refl, translated_cut first code.End tt, translated_cut second code.End tt, h)

    all_cut : (ts : CoreTrees) (rest : CodeTree) → IsCut rest → IsCut (translate_all m n ts rest)
    all_cut tree.no_core rest h = h
    all_cut (tree.one_core first others) rest h = translated_cut first _ (all_cut others rest h)
