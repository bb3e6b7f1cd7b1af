use Rattle.std.proofs.Common.{◌≡◌, ℕ, ◌+◌, List, ◌∷◌, map, drop, Err, subst, ap, sym, ◌∙◌, arith}
use Rattle.std.proofs.lemmas.List.{drop_all, drop_more, map_push}
use Rattle.ocl_text.specs.declared.tree.SurfaceRule.{SurfaceRule}
use Rattle.ocl_text.specs.Tree.{Rule}
use Rattle.ocl_text.specs.View.{rule_of}
use Rattle.ocl_core.specs.CoreView.{checked_rule_of}
use Rattle.ocl_types.specs.declared.fault.TypeFlaw.TheVariants.{UnknownName}
use Rattle.ocl_types.specs.declared.rules_fault.RulesFault.{RulesFault}
use Rattle.ocl_types.specs.declared.rules_fault.RulesFault.TheVariants.{At}
use Rattle.ocl_types.proofs.AllChecked.{CheckedTo, all_checked, all_typed, checked_apart, one_checked, is_first, first_unknown, first_is_known, no_rules}
use Rattle.ocl_types.proofs.all_rules.check_rules.Goals as goal

-- src/all_rules.rt
pub returns-clause-typed : goal.returns-clause-typed
returns-clause-typed c =
    let m = c.args.model.now in
    let all = map rule_of c.args.rules.now in
    let xs = map checked_rule_of c.loop-i.checked.items in
    let none = drop_all c.loop-i.i c.args.rules.now (omega (arith, c.loop-i-test.false)) in
    let h = subst (λ (l : List SurfaceRule). CheckedTo m all xs c.loop-i.i (map rule_of l)) none c.loop-i.invariant.0 in
    all_typed m c.well_formed-2.ensures 0 all xs (all_checked m all xs c.loop-i.i h)

pub returns-clause-names : goal.returns-clause-names
returns-clause-names c = λ apart.
    let m = c.args.model.now in
    let all = map rule_of c.args.rules.now in
    let xs = map checked_rule_of c.loop-i.checked.items in
    let none = drop_all c.loop-i.i c.args.rules.now (omega (arith, c.loop-i-test.false)) in
    let h = subst (λ (l : List SurfaceRule). CheckedTo m all xs c.loop-i.i (map rule_of l)) none c.loop-i.invariant.0 in
    checked_apart m all xs (all_checked m all xs c.loop-i.i h) apart

pub loop-i-preserved : goal.loop-i-preserved
loop-i-preserved c = (
  let m = c.args.model.now in
      let all = map rule_of c.args.rules.now in
      let rule = c.index-rules-i.result in
      let more = drop_more c.args.rules.now c.loop-i.i rule c.loop-i-test.true ∙ ap (λ (r : SurfaceRule). r ∷ drop (c.loop-i.i + 1) c.args.rules.now) (sym c.index-rules-i.is) in
      let before = subst (λ (l : List SurfaceRule). CheckedTo m all (map checked_rule_of c.loop-i.checked.items) c.loop-i.i (map rule_of l)) more c.loop-i.invariant.0 in
      let next = one_checked m all (map checked_rule_of c.loop-i.checked.items) c.loop-i.i (rule_of rule) (map rule_of (drop (c.loop-i.i + 1) c.args.rules.now)) (checked_rule_of c.in-Ok.rule) before c.in-Ok.ensures.gives in
      rw (c.in_ok-push-in-Ok.ensures.items, map_push) next,
  λ first others all unknown. absurd (first_is_known c.args.model.now c.args.rules.now c.loop-i.i c.index-rules-i.result c.loop-i.invariant.1 c.index-rules-i.is (λ none. let e = c.in-Ok.ensures.unknown_context none in cc) first others all unknown),
)

pub returns-in_err-push-in-Ok-clause-unknown_context : goal.returns-in_err-push-in-Ok-clause-unknown_context
returns-in_err-push-in-Ok-clause-unknown_context c = λ first others all unknown.
    absurd (first_is_known c.args.model.now c.args.rules.now c.loop-i.i c.index-rules-i.result c.loop-i.invariant.1 c.index-rules-i.is (λ none. let e = c.in-Ok.ensures.unknown_context none in cc) first others all unknown)

pub returns-in-Err-clause-unknown_context : goal.returns-in-Err-clause-unknown_context
returns-in-Err-clause-unknown_context c = λ first others all unknown.
    let zero = c.loop-i.invariant.1 first others all unknown in
    let same = is_first c.args.rules.now c.loop-i.i c.index-rules-i.result first others c.index-rules-i.is zero all in
    let fault : c.in-Err.fault ≡ At UnknownName c.loop-i.i c.index-rules-i.result.context_offset =
    let e = c.in-Err.ensures.unknown_context (first_unknown c.args.model.now c.args.rules.now c.loop-i.i c.index-rules-i.result first others c.index-rules-i.is zero all unknown) in cc in
    ap (λ (f : RulesFault). Err f) (fault ∙ ap (λ (i : ℕ). At UnknownName i c.index-rules-i.result.context_offset) zero ∙ ap (λ (r : Rule). At UnknownName 0 r.context_offset) same)

pub returns-clause-unknown_context : goal.returns-clause-unknown_context
returns-clause-unknown_context c = λ first others all unknown.
    let zero = c.loop-i.invariant.1 first others all unknown in
    let none = drop_all c.loop-i.i c.args.rules.now (omega (arith, c.loop-i-test.false)) in
    absurd (no_rules c.args.rules.now first others (rw zero at none) all)
