use Rattle.std.proofs.Common.{◌≡◌, ℕ, suc, ◌+◌, ◌-◌, Bool, List, Some, length, sym, ap, ◌∙◌, bytes_eq, add-one, arith, if◌then◌else◌}
use Rattle.ocl_explain.specs.CodeWhy.{index_of_rule_from}
use Rattle.ocl_explain.proofs.code_whys.rule_named.Goals as goal

pub loop-rule-preserved : goal.loop-rule-preserved
loop-rule-preserved c =
    let u = c.args.accepted.now.unit in
    let name = c.args.name.now in
    let i = c.loop-rule.rule in
    let k = length u.rules - (i + 1) in
    let left : length u.rules - i ≡ suc k = omega (arith, c.loop-rule-test.true, c.rules-rule-end.ensures, c.loop-rule.auto.rule-end) in
    let test = ap (λ (n : List ℕ). bytes_eq n name) (sym (c.as_bytes.ensures.value ∙ c.rule_name.ensures)) ∙ (sym c.eq.ensures ∙ c.if-eq.false) in
    let next : i + 1 ≡ suc i = add-one i in
    c.loop-rule.invariant
    ∙ (ap (λ (l : ℕ). index_of_rule_from u name l i) left
    ∙ (ap (λ (b : Bool). if b then Some i else index_of_rule_from u name k (suc i)) test
    ∙ ap (index_of_rule_from u name k) (sym next)))
