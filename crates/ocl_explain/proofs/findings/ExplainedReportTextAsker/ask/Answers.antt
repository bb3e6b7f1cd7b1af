use Rattle.std.proofs.Common.{rules, List, map, option_map, sym, ap, ◌∙◌}
use Rattle.ocl_core.specs.Core.{CheckedRule}
use Rattle.ocl_core.specs.CoreView.{checked_rule_of}
use Rattle.ocl_check.specs.Given.{meant_within}
use Rattle.ocl_check.proofs.ForAbove.{ending_as}
use Rattle.ocl_explain.specs.RuleNames.{RuleNames, names_by}
use Rattle.ocl_explain.specs.ExplainedReport.{rules_explainer, explained_answer}
use Rattle.ocl_explain.proofs.findings.ExplainedReportTextAsker.ask.Goals as goal

pub returns-in-Err : goal.returns-in-Err
returns-in-Err g c = λ t compiled are typed same.
    let h = c.each_text_is_read.ensures c.args.self.now.rules.now in
    (h.0, h.1, search rules)

pub returns : goal.returns
returns g c = λ t compiled are typed same.
    let p = c.args.population.now.content in
    let shown = c.args.self.now.shown in
    let rule = option_map (λ r. r.now) c.args.self.now.rule in
    let n = c.in-Ok.ensures in
    let said = meant_within c.args.self.now.budget (p, compiled) in
    let h = c.ask-judged.ensures t compiled are typed same in
    let text = c.into_inner-text.ensures in
    let wrote = c.write_judged.ensures said (let judged = h.answered in search rules) in
    let written = rw c.deref.ensures.value at wrote in (
      n.0,
      n.1,
      ending_as (ap (λ (ns : List RuleNames). explained_answer (rules_explainer p ns (map checked_rule_of c.args.rules.now)) shown rule said) n.2
          ∙ ap (λ (rs : List CheckedRule). explained_answer (rules_explainer p (names_by n.0 rs) rs) shown rule said) (sym typed)) written,
    )
