use Rattle.std.proofs.Common.{ℕ, List, true, false, ◌∙◌, ap, sym, refl, bytes_eq, arith}
use Rattle.ocl_core.specs.CoreView.{checked_rule_of}
use Rattle.ocl_explain.proofs.Named.{next_rule, no_rule_left}
use Rattle.ocl_explain.proofs.verdicts.is_rule.Goals as goal

pub returns-then-eq : goal.returns-then-eq
returns-then-eq c =
    let name = c.args.name.now in
    let test = ap (λ (n : List ℕ). bytes_eq n name) (sym (c.as_bytes.ensures.value ∙ c.as_str.ensures.text)) ∙ (sym c.eq.ensures ∙ c.if-eq.true) in
    let next = next_rule checked_rule_of c.args.rules.now c.rules.rule-index c.rule-item.result name true (omega arith) c.rule-item.is test in
    rw (c.rules.invariant ∙ next) refl

pub rules-preserved : goal.rules-preserved
rules-preserved c =
    let name = c.args.name.now in
    let test = ap (λ (n : List ℕ). bytes_eq n name) (sym (c.as_bytes.ensures.value ∙ c.as_str.ensures.text)) ∙ (sym c.eq.ensures ∙ c.if-eq.false) in
    c.rules.invariant ∙ next_rule checked_rule_of c.args.rules.now c.rules.rule-index c.rule-item.result name false (omega arith) c.rule-item.is test

pub returns : goal.returns
returns c =
    let none = no_rule_left checked_rule_of c.args.rules.now c.rules.rule-index c.args.name.now c.rules-test.false in
    rw (c.rules.invariant ∙ none) refl
