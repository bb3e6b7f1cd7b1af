use Rattle.std.proofs.Common.{ℕ, List, map, true, false, ◌∙◌, ap, sym, bytes_eq, add-one, drop-cons, arith}
use Rattle.std.proofs.lemmas.Result.{IfOk-weaker}
use Rattle.ocl_core.specs.CoreView.{checked_rule_of}
use Rattle.ocl_explain.proofs.Named.{next_rule}
use Rattle.ocl_explain.proofs.Confirmed.{shown_by}
use Rattle.ocl_explain.proofs.exampling.verdict_named.Goals as goal

pub returns-then-eq : goal.returns-then-eq
returns-then-eq c =
    let name = c.args.name.now in
    let test = ap (λ (n : List ℕ). bytes_eq n name) (sym (c.as_bytes.ensures.value ∙ c.as_str.ensures.text)) ∙ (sym c.eq.ensures ∙ c.if-eq.true) in
    let next = next_rule checked_rule_of c.args.rules.now c.rules.rule-index c.rule-item.result name true (omega arith) c.rule-item.is test in
    IfOk-weaker c.verdict_for_id.result _ _ (λ v means. shown_by c.args.population.now.content (map checked_rule_of c.args.rules.now) name c.args.id.now (checked_rule_of c.rule-item.result) v (c.rules.invariant.1 ∙ next) means) c.verdict_for_id.ensures

pub rules-preserved : goal.rules-preserved
rules-preserved c =
    let name = c.args.name.now in
    let test = ap (λ (n : List ℕ). bytes_eq n name) (sym (c.as_bytes.ensures.value ∙ c.as_str.ensures.text)) ∙ (sym c.eq.ensures ∙ c.if-eq.false) in
    let next = next_rule checked_rule_of c.args.rules.now c.rules.rule-index c.rule-item.result name false (omega arith) c.rule-item.is test in
    let typed = rw (drop-cons c.args.rules.now c.rules.rule-index c.rule-item.result c.rules-test.true) at c.rules.invariant.0 in
    (rw add-one typed.1, c.rules.invariant.1 ∙ next)
