-- A rule of a compiled unit has the very tree that was compiled.
use Rattle.std.proofs.Common.{◌≡◌, [], Some, sym, ap, ◌∙◌, subst}
use Rattle.std.specs.Prelude.{slice_get}
use Rattle.std.specs.Option.{option_map}
use Rattle.std.proofs.lemmas.Option.{slice_get-map, get_or_from_slice_get}
use Rattle.ocl_core.specs.Typing.{IsTypedRule}
use Rattle.rule_code.specs.Content.{Content, RuleContent}
use Rattle.rule_code.proofs.ForAbove.{AllByRecursion-at}
use Rattle.rule_verify.specs.CodeTree.{End, code_tree}
use Rattle.rule_verify.specs.UnitRules.{unit_rule, empty_rule}
use Rattle.ocl_compile.specs.Numbering.{numbering_of}
use Rattle.ocl_compile.specs.Translation.{rule_tree, translate_rule, translate_rules}
use Rattle.ocl_compile.specs.Compiling.{first_passed}
use Rattle.ocl_compile.proofs.ForAbove.{rules_resolved, compiled_is, rule_code_is, resolved_at}
use Rattle.rule_trees.specs.CoreOf.{sole, core_of, surroundings_of_rule}
use Rattle.rule_trees.specs.Laws.{IsCoreOf, CompiledRulesKeepTrees}
use Rattle.rule_trees.proofs.TreesBack.{trees_back}

-- the law
pub compiled_rules_keep_trees : CompiledRulesKeepTrees
compiled_rules_keep_trees m rs u n r model typed compiled at =
    let c = compiled_is (first_passed m rs [] rs) (translate_rules m rs) u compiled in
    let v = translate_rules m rs in
    let k = numbering_of m rs in
    let code = translate_rule m k r in
    let code_at : slice_get v.rules n ≡ Some code = slice_get-map (translate_rule m k) rs n ∙ ap (option_map (translate_rule m k)) at in
    let rule_is : unit_rule v n ≡ code = get_or_from_slice_get v.rules n code empty_rule code_at in
    let tree_is : code_tree (unit_rule v n).code ≡ rule_tree m k r = ap (λ (x : RuleContent). code_tree x.code) rule_is ∙ rule_code_is m k r in
    let known = resolved_at m v k rs n r (rules_resolved m model rs typed) at in
    let t = AllByRecursion-at (IsTypedRule m) rs n r at typed in
    let s = surroundings_of_rule m v n in
    let of_v : IsCoreOf m v n r.tree = ap (core_of s) tree_is ∙ ap sole (trees_back s k r.tree _ t.1.0 t.1.1 known.1.1 End []) in
    subst (λ (w : Content). IsCoreOf m w n r.tree) (sym c.1) of_v
