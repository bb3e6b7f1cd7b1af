use Rattle.std.proofs.Common.{List, ◌∷◌, length, refl, ap, ◌∙◌}
use Rattle.std.proofs.lemmas.Result.{err_from_is_err_and}
use Rattle.ocl_kinds.specs.declared.kind.Kind.{Kind}
use Rattle.ocl_kinds.specs.declared.kind.Kind.TheVariants.{Scalar}
use Rattle.ocl_kinds.specs.declared.kind.ScalarKind.TheVariants as element
use Rattle.rule_code.specs.Content.{rule_content}
use Rattle.rule_code.specs.View.{content}
use Rattle.rule_verify.specs.declared.code.RuleCode.{RuleCode}
use Rattle.rule_verify.proofs.CheckedRules.{code_wrong, end_wrong, rule_passes, rule_goes_deep}
use Rattle.rule_verify.proofs.rules.check_rule.Goals as goal

pub sequence-requires-clause-rule : goal.sequence-requires-clause-rule
sequence-requires-clause-rule g c =
    record { model = rw (← c.model.ensures) c.well_formed-2.ensures; context = c.in-Some.ensures.in_range }

pub returns-in_err-operands-clause-checked : goal.returns-in_err-operands-clause-checked
returns-in_err-operands-clause-checked g c =
    let r : RuleCode = record { resolved = c.args.resolved; index = c.args.index; context = c.in-Some.context; code = c.as_slice.result } in
    let x = rule_content c.rule-rule.result.now in
    let p = err_from_is_err_and c.from_residual-in_err-operands.result c.from_residual-in_err-operands.ensures.1 in
    rw (p.1, p.2) (code_wrong r c.put.new.kinds (length c.as_slice.result.now) (content c.unit.result.now) x (c.in_ok-put.ensures ∙ ap (λ (l : List Kind). Scalar (element.Class c.in-Some.context) ∷ l) c.new.ensures) refl c.unit.ensures c.rule-rule.ensures.rule c.as_slice.ensures.value c.in-Some.ensures.class _ c.in_err-operands.ensures.gives)

pub returns-in_err-ended_with-clause-checked : goal.returns-in_err-ended_with-clause-checked
returns-in_err-ended_with-clause-checked g c =
    let r : RuleCode = record { resolved = c.args.resolved; index = c.args.index; context = c.in-Some.context; code = c.as_slice.result } in
    let x = rule_content c.rule-rule.result.now in
    let p = err_from_is_err_and c.from_residual-in_err-ended_with.result c.from_residual-in_err-ended_with.ensures.1 in
    rw (p.1, p.2) (end_wrong r c.put.new.kinds (length c.as_slice.result.now) (content c.unit.result.now) x (c.in_ok-put.ensures ∙ ap (λ (l : List Kind). Scalar (element.Class c.in-Some.context) ∷ l) c.new.ensures) refl c.unit.ensures c.rule-rule.ensures.rule c.as_slice.ensures.value c.in-Some.ensures.class c.in_ok-operands.operands c.in_ok-operands.ensures.gives _ c.in_err-ended_with.ensures.ends)

pub returns-clause-checked : goal.returns-clause-checked
returns-clause-checked g c =
    let r : RuleCode = record { resolved = c.args.resolved; index = c.args.index; context = c.in-Some.context; code = c.as_slice.result } in
    let x = rule_content c.rule-rule.result.now in
    rule_passes r c.put.new.kinds (length c.as_slice.result.now) (content c.unit.result.now) x (c.in_ok-put.ensures ∙ ap (λ (l : List Kind). Scalar (element.Class c.in-Some.context) ∷ l) c.new.ensures) refl c.unit.ensures c.rule-rule.ensures.rule c.as_slice.ensures.value c.in-Some.ensures.class c.in_ok-operands.operands c.in_ok-ended_with.field-0 c.in_ok-operands.ensures.gives c.in_ok-ended_with.ensures.ends

pub returns-clause-depths : goal.returns-clause-depths
returns-clause-depths g c =
    let r : RuleCode = record { resolved = c.args.resolved; index = c.args.index; context = c.in-Some.context; code = c.as_slice.result } in
    let x = rule_content c.rule-rule.result.now in
    rule_goes_deep r c.put.new.kinds (length c.as_slice.result.now) (content c.unit.result.now) x (c.in_ok-put.ensures ∙ ap (λ (l : List Kind). Scalar (element.Class c.in-Some.context) ∷ l) c.new.ensures) refl c.unit.ensures c.rule-rule.ensures.rule c.as_slice.ensures.value c.in-Some.ensures.class _ _ c.in_ok-operands.ensures.walked
