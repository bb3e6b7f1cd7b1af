use Rattle.std.proofs.Common.{List, map, ap, sym, ◌∙◌, rules}
use Rattle.ocl_core.specs.Core.{CheckedRule}
use Rattle.ocl_core.specs.CoreView.{checked_rule_of}
use Rattle.rule_code.specs.Content.{Content}
use Rattle.ocl_pipeline.specs.CompiledRules.{rules_with}
use Rattle.ocl_check.proofs.ForAbove.{ending_as}
use Rattle.ocl_explain.specs.Explained.{why_of}
use Rattle.ocl_explain.proofs.whys.ExplanationTextAsker.ask.Goals as goal

pub returns-in-Ok : goal.returns-in-Ok
returns-in-Ok g c = λ t compiled are typed same.
    let p = c.args.population.now.content in
    let asked = c.args.self.now.asked in
    let h = c.in-Ok.ensures in
    let f = why_of h.0 asked.rule.now asked.id.now asked.lines in
    let answer = c.answer_named.ensures h.0 (rw c.deref.ensures.value h.2) in
    (h.0, h.1, ending_as (ap (λ (u : Content). f (p, rules_with (map checked_rule_of c.args.rules.now) u)) (sym same) ∙ ap (λ (rs : List CheckedRule). f (p, rules_with rs compiled.unit)) (sym typed)) answer)

pub returns-in-Err : goal.returns-in-Err
returns-in-Err g c = λ t compiled are typed same.
    let h = c.each_text_is_read.ensures c.args.self.now.asked.rules.bytes.now in
    (h.0, h.1, search rules)
