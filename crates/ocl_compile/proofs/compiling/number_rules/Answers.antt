use Rattle.std.proofs.Common.{◌+◌, List, ◌∷◌, Option, drop, map, refl, sym, ap, ◌∙◌, subst}
use Rattle.std.proofs.lemmas.List.{drop_more}
use Rattle.ocl_core.specs.declared.core_tree.CoreRule.{CoreRule}
use Rattle.ocl_core.specs.CoreView.{checked_rule_of}
use Rattle.ocl_compile.specs.Numbering.{numbering_of, rule_uses, with_uses}
use Rattle.ocl_compile.specs.Compiling.{LimitAt, unless_passed}
use Rattle.ocl_compile.proofs.RulesNumbered.{NumberedTo, limit_here, first_is, stops_at, one_numbered}
use Rattle.ocl_compile.proofs.compiling.number_rules.Goals as goal

-- src/compiling.rt
pub returns-in-Err : goal.returns-in-Err
returns-in-Err c =
    let m = c.args.model.now in
    let rules = c.args.rules.now in
    let all = map checked_rule_of rules in
    let n = c.loop-i.numbers in
    let i = c.loop-i.i in
    let rule = c.index-rules-i.result in
    let r = checked_rule_of rule in
    let left = map checked_rule_of (drop (i + 1) rules) in
    let here = drop_more rules i rule c.loop-i-test.true ∙ ap (λ (x : CoreRule). x ∷ drop (i + 1) rules) (sym c.index-rules-i.is) in
    let h = subst (λ (xs : List CoreRule). NumberedTo m all n i (map checked_rule_of xs)) here c.loop-i.invariant in
    let stop = rw c.in-Err.is at c.number_rule.ensures in
    rw c.of_rule.ensures (stops_at m all n (with_uses m n (rule_uses m r)) i r left h refl c.in-Err.fault c.number_rule.new.numbers (numbering_of m all) stop)

pub returns-in-Some : goal.returns-in-Some
returns-in-Some c =
    let m = c.args.model.now in
    let rules = c.args.rules.now in
    let all = map checked_rule_of rules in
    let i = c.loop-i.i in
    let rule = c.index-rules-i.result in
    let left = map checked_rule_of (drop (i + 1) rules) in
    let here = drop_more rules i rule c.loop-i-test.true ∙ ap (λ (x : CoreRule). x ∷ drop (i + 1) rules) (sym c.index-rules-i.is) in
    let h = subst (λ (xs : List CoreRule). NumberedTo m all c.loop-i.numbers i (map checked_rule_of xs)) here c.loop-i.invariant in
    let new = c.number_rule.new.numbers in
    let numbered = rw c.in_default.is at c.number_rule.ensures in
    let limit = rw c.measure.ensures at c.limit_passed.ensures in
    let is = sym (limit_here m all c.loop-i.numbers new i (checked_rule_of rule) left h numbered c.fit.ensures) ∙ sym limit ∙ c.in-Some.is in
    ap (λ (o : Option LimitAt). unless_passed o (numbering_of m all)) (first_is m all c.loop-i.numbers new i (checked_rule_of rule) left h numbered c.in-Some.limit is)

pub loop-i-preserved : goal.loop-i-preserved
loop-i-preserved c =
    let m = c.args.model.now in
    let rules = c.args.rules.now in
    let all = map checked_rule_of rules in
    let i = c.loop-i.i in
    let rule = c.index-rules-i.result in
    let left = map checked_rule_of (drop (i + 1) rules) in
    let here = drop_more rules i rule c.loop-i-test.true ∙ ap (λ (x : CoreRule). x ∷ drop (i + 1) rules) (sym c.index-rules-i.is) in
    let h = subst (λ (xs : List CoreRule). NumberedTo m all c.loop-i.numbers i (map checked_rule_of xs)) here c.loop-i.invariant in
    let new = c.number_rule.new.numbers in
    let numbered = rw c.in_default.is at c.number_rule.ensures in
    let limit = rw c.measure.ensures at c.limit_passed.ensures in
    let is = sym (limit_here m all c.loop-i.numbers new i (checked_rule_of rule) left h numbered c.fit.ensures) ∙ sym limit ∙ c.in_default-limit_passed.is in
    one_numbered m all c.loop-i.numbers new i (checked_rule_of rule) left h numbered is
