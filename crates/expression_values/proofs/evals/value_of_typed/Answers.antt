use Rattle.std.proofs.Common.{List, map, subst, sym, drop-cons, arith}
use Rattle.std.specs.List.{AllByRecursion}
use Rattle.ocl_core.specs.declared.core_tree.CoreRule.{CoreRule}
use Rattle.ocl_core.specs.CoreView.{core_view, checked_rule_of}
use Rattle.ocl_core.specs.Typing.{IsTypedRule}
use Rattle.ocl_semantics.proofs.ForAbove.{typed_resolved}
use Rattle.expression_values.proofs.evals.value_of_typed.Goals as goal

-- in the tree of a typed rule each name is one of the class model, and so it is in a part of it
pub value_of-requires-clause-resolved : goal.value_of-requires-clause-resolved
value_of-requires-clause-resolved c =
    let m = c.args.population.now.content.model in
    let rule = c.rule-item.result in
    let all = subst (λ (rs : List CoreRule). AllByRecursion (IsTypedRule m) (map checked_rule_of rs)) (drop-cons c.args.rules.now 0 rule c.in-len1-up.len_at_least) c.requires.typed in
    let typed = subst (λ (r : CoreRule). IsTypedRule m (checked_rule_of r)) (sym c.rule-item.is) all.0 in
    c.in-Some.ensures.resolved m (typed_resolved m _ (core_view rule.tree) typed.1.0 typed.1.1)
