-- A run of the code of a core tree comes to the end of that code with the tree's meaning as its topmost operand.
use Rattle.std.proofs.Common.{◌≡◌, ℕ, zero, suc, List, ◌∷◌, length, drop, Option, Some, None, refl, ap, ◌∙◌, subst}
use Rattle.std.specs.Str.{chars}
use Rattle.imkl_population.specs.declared.scalar.Scalar.TheVariants as scalar
use Rattle.ocl_kinds.specs.declared.kind.Kind.{Kind}
use Rattle.ocl_core.specs.Core as tree
use Rattle.ocl_core.specs.Core.{Constant, CoreTree, CoreTrees}
use Rattle.ocl_core.specs.Typing.{IsTyped, AreTyped}
use Rattle.rule_code.specs.declared.instruction.Instr.TheVariants as instrs
use Rattle.rule_verify.specs.CodeTree as code
use Rattle.rule_verify.specs.CodeTree.{CodeTree, instr_count}
use Rattle.rule_verify.specs.declared.named.Named.{Named}
use Rattle.rule_verify.specs.InstrKinds.{operands_of}
use Rattle.rule_values.specs.Value as value
use Rattle.rule_values.specs.Value.{Value, element_value}
use Rattle.rule_values.specs.Operations.{or_invalid, all_instances}
use Rattle.rule_machine.specs.Machine.{Setting, judged_by, literal_named, on_class_named, value_named_read, Piece, Sequence, Configuration, configuration, step, run}
use Rattle.rule_machine.specs.Outcome.{outcome}
use Rattle.ocl_semantics.specs.Meaning.{constant_value, operation_value, meaning, meanings}
use Rattle.ocl_compile.specs.Numbering.{Numbering, Use, tree_uses, trees_uses, constant_uses, scalar_uses, kind_uses, iteration_uses, owned_feature}
use Rattle.ocl_compile.specs.Translation.{constant_instr, variable_instr, operator_instr, iteration_instr, iteration_block, fold_block, let_block, if_block, written_scalar, written_kind, symbol_of_unit, translate, translate_all}
use Rattle.ocl_compile.specs.ResolvedUses.{AreUsesResolved}
use Rattle.ocl_compile.proofs.Resolved.{of_first, of_rest}
use Rattle.ocl_compile.proofs.Operating.{stacked, operands_counted, meanings_counted, operates}
use Rattle.ocl_compile.proofs.Reaching.{Reached, is_iterating, plain_reached, let_reached, if_reached, iteration_reached, fold_reached}

module _ (s : Setting) (first : Configuration) (goes_on : (k : ℕ) (c : Configuration) → run s k first ≡ Some c → outcome c ≡ None → (d : Configuration) × (step s c ≡ Some d)) (n : Numbering) where
  abbrev At : CodeTree → List Piece → List Value → List Value → Type 0
  At t ps vars os = Reached s first goes_on (configuration (Sequence t ∷ ps) vars os)

  abbrev Known : List Use → Type 0
  Known us = AreUsesResolved s.population.model s.unit n us

  constant_reached : (c : Constant) → Known (constant_uses c) → (rest : CodeTree) (ps : List Piece) (vars os : List Value) → At (code.Plain (constant_instr n c) rest) ps vars os → At rest ps vars (constant_value c ∷ os)
  constant_reached (tree.Boolean b) h rest ps vars os r = plain_reached s first goes_on (instrs.Bool b) rest ps vars os r
  constant_reached (tree.Integer i) h rest ps vars os r = plain_reached s first goes_on (constant_instr n (tree.Integer i)) rest ps vars os r
  constant_reached (tree.Text t) h rest ps vars os r =
      subst (λ (x : List ℕ). At rest ps vars (value.Single (scalar.Text (chars x)) ∷ os)) h.0 (plain_reached s first goes_on (constant_instr n (tree.Text t)) rest ps vars os r)
  constant_reached (tree.Literal e l) h rest ps vars os r =
      subst (λ (x : Option Named). At rest ps vars (or_invalid (literal_named x) ∷ os)) h.0 (plain_reached s first goes_on (constant_instr n (tree.Literal e l)) rest ps vars os r)
  constant_reached tree.Null h rest ps vars os r = plain_reached s first goes_on instrs.Null rest ps vars os r
  constant_reached tree.Invalid h rest ps vars os r = plain_reached s first goes_on instrs.Invalid rest ps vars os r

  variable_reached : (v : ℕ) (rest : CodeTree) (ps : List Piece) (vars os : List Value) → At (code.Plain (variable_instr v) rest) ps vars os → At rest ps vars (meaning s.population (tree.Variable v) vars ∷ os)
  variable_reached zero rest ps vars os r = plain_reached s first goes_on instrs.SelfObject rest ps vars os r
  variable_reached (suc v) rest ps vars os r = plain_reached s first goes_on (instrs.Get (suc v)) rest ps vars os r

  mutual
    -- a run that comes to the code of a tree comes to its end, with the tree's meaning on the operands
    pub tree_reached : (t : CoreTree) (g : List Kind) (k : Kind) → IsTyped s.population.model g t k → Known (tree_uses s.population.model t)
        → (rest : CodeTree) (ps : List Piece) (vars os : List Value)
        → At (translate s.population.model n t rest) ps vars os → At rest ps vars (meaning s.population t vars ∷ os)
    tree_reached (tree.Value c) g k t h rest ps vars os r = constant_reached c h rest ps vars os r
    tree_reached (tree.Variable v) g k t h rest ps vars os r = variable_reached v rest ps vars os r
    tree_reached (tree.AllInstances c) g k t h rest ps vars os r =
        subst (λ (x : Option Named). At rest ps vars (or_invalid (on_class_named (all_instances s.population) x) ∷ os)) h.0 (plain_reached s first goes_on _ rest ps vars os r)
    tree_reached (tree.Feature source f) g k t h rest ps vars os r =
        let m = s.population.model in
        let v = meaning s.population source vars in
        let i = instrs.Attr (symbol_of_unit n (owned_feature m f)) in
        let there = of_rest m s.unit n (tree_uses m source) _ h in
        let below = tree_reached source g t.1.0 t.1.1 (of_first m s.unit n (tree_uses m source) _ h) (code.Plain i rest) ps vars os r in
        subst (λ (x : Option Named). At rest ps vars (or_invalid (value_named_read s.population x v) ∷ os)) there.0 (plain_reached s first goes_on i rest ps vars (v ∷ os) below)
    tree_reached (tree.Operation operator first_tree others) g k t h rest ps vars os r =
        let m = s.population.model in
        let p = s.population in
        let v = meaning p first_tree vars in
        let ws = meanings p others vars in
        let i = operator_instr n operator in
        let after = of_rest m s.unit n (tree_uses m first_tree) _ h in
        let one = tree_reached first_tree g t.0 t.2 (of_first m s.unit n (tree_uses m first_tree) _ h) (translate_all m n others (code.Plain i rest)) ps vars os r in
        let all = trees_reached others g t.1 t.3 (of_first m s.unit n (trees_uses m others) _ after) (code.Plain i rest) ps vars (v ∷ os) one in
        let counted = ap suc (meanings_counted p vars g others t.1 t.3) ∙ operands_counted m operator t.0 t.1 k t.4 in
        let o = operates s n vars v os operator ws counted (of_rest m s.unit n (trees_uses m others) _ after) in
        subst (λ (x : List Value). At rest ps vars (operation_value p operator v ws ∷ x)) o.leaves
        (subst (λ (x : Value). At rest ps vars (x ∷ drop (length (operands_of (judged_by s) i)) (stacked ws (v ∷ os)))) o.gives (plain_reached s first goes_on i rest ps vars (stacked ws (v ∷ os)) all))
    tree_reached (tree.AsCollection c e source) g k t h rest ps vars os r =
        let m = s.population.model in
        let i = instrs.AsColl c (written_scalar n e) in
        let below = tree_reached source g t.1.0 t.1.1 (of_first m s.unit n (tree_uses m source) _ h) (code.Plain i rest) ps vars os r in
        plain_reached s first goes_on i rest ps vars (meaning s.population source vars ∷ os) below
    tree_reached (tree.Iterate it source body) g k t h rest ps vars os r =
        let m = s.population.model in
        let b = translate m n body code.End in
        let after = of_rest m s.unit n (tree_uses m source) _ h in
        let in_body = of_rest m s.unit n (iteration_uses it) _ after in
        let below = tree_reached source g _ t.4 (of_first m s.unit n (tree_uses m source) _ h) (iteration_block n it b rest) ps vars os r in
        iteration_reached s first goes_on (iteration_instr n it (instr_count b)) it (is_iterating s first goes_on n it (instr_count b)) b rest ps vars os (meaning s.population source vars) (λ e. meaning s.population body (element_value e ∷ vars)) below
        (λ e q begun. tree_reached body _ t.3 t.6 in_body code.End q (element_value e ∷ vars) os begun)
    tree_reached (tree.Fold x source start body) g k t h rest ps vars os r =
        let m = s.population.model in
        let p = s.population in
        let b = translate m n body code.End in
        let block = fold_block n x b rest in
        let from_start = of_rest m s.unit n (tree_uses m source) _ h in
        let in_body = of_rest m s.unit n (scalar_uses x) _ (of_rest m s.unit n (tree_uses m start) _ from_start) in
        let below = tree_reached source g _ t.1.5 (of_first m s.unit n (tree_uses m source) _ h) (translate m n start block) ps vars os r in
        let begun = tree_reached start g _ t.1.6 (of_first m s.unit n (tree_uses m start) _ from_start) block ps vars (meaning p source vars ∷ os) below in
        fold_reached s first goes_on (written_scalar n x) (instr_count b) b rest ps vars os (meaning p source vars) (meaning p start vars) (λ e a. meaning p body (a ∷ element_value e ∷ vars)) begun
        (λ e a q at. tree_reached body _ t.1.4 t.1.9 in_body code.End q (a ∷ element_value e ∷ vars) os at)
    tree_reached (tree.Let v body) g k t h rest ps vars os r =
        let m = s.population.model in
        let b = translate m n body code.End in
        let w = meaning s.population v vars in
        let below = tree_reached v g t.0 t.2 (of_first m s.unit n (tree_uses m v) _ h) (let_block b rest) ps vars os r in
        let_reached s first goes_on (instr_count b) b rest ps vars os w (meaning s.population body (w ∷ vars)) below
        (λ q begun. tree_reached body _ k t.4 (of_rest m s.unit n (tree_uses m v) _ h) code.End q (w ∷ vars) os begun)
    tree_reached (tree.If kind condition one two) g k t h rest ps vars os r =
        let m = s.population.model in
        let a = translate m n one code.End in
        let b = translate m n two code.End in
        let after = of_rest m s.unit n (tree_uses m condition) _ h in
        let branches = of_rest m s.unit n (kind_uses kind) _ after in
        let below = tree_reached condition g t.1.0 t.1.3 (of_first m s.unit n (tree_uses m condition) _ h) (if_block n kind a b rest) ps vars os r in
        if_reached s first goes_on (instrs.If (written_kind n kind) (instr_count a) (instr_count b)) refl a b rest ps vars os (meaning s.population condition vars) (meaning s.population one vars) (meaning s.population two vars) below
        (λ q begun. tree_reached one g t.1.1 t.1.5 (of_first m s.unit n (tree_uses m one) _ branches) code.End q vars os begun)
        (λ q begun. tree_reached two g t.1.2 t.1.7 (of_rest m s.unit n (tree_uses m one) _ branches) code.End q vars os begun)

    trees_reached : (ts : CoreTrees) (g : List Kind) (ks : List Kind) → AreTyped s.population.model g ts ks → Known (trees_uses s.population.model ts)
        → (rest : CodeTree) (ps : List Piece) (vars os : List Value)
        → At (translate_all s.population.model n ts rest) ps vars os → At rest ps vars (stacked (meanings s.population ts vars) os)
    trees_reached tree.no_core g ks t h rest ps vars os r = r
    trees_reached (tree.one_core one others) g ks t h rest ps vars os r =
        let m = s.population.model in
        let below = tree_reached one g t.0 t.2 (of_first m s.unit n (tree_uses m one) _ h) (translate_all m n others rest) ps vars os r in
        trees_reached others g t.1 t.3 (of_rest m s.unit n (tree_uses m one) _ h) rest ps vars (meaning s.population one vars ∷ os) below
