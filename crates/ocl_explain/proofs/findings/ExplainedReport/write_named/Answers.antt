use Rattle.std.proofs.Common.{◌≡◌, ℕ, List, [], Bool, true, false, Some, ap, sym, ◌∙◌, if◌then◌else◌}
use Rattle.ocl_check.proofs.ForAbove.{ending_as}
use Rattle.ocl_explain.specs.declared.weaving.Shown.{Shown}
use Rattle.ocl_explain.specs.ExplainedReport.{Explainer, explained_report, reported}
use Rattle.ocl_explain.proofs.findings.ExplainedReport.write_named.Goals as goal

-- what is reported of the rule of a name, by whether there is one
named_by : (e : Explainer) (shown : Shown) (name text : List ℕ) (status : ℕ) (b : Bool) → e.has_rule name ≡ b
    → reported e shown (Some name) (text, status) ≡ (if b then (explained_report e shown (Some name) text, 0) else ([], 2))
named_by e shown name text status b is = ap (λ (x : Bool). if x then (explained_report e shown (Some name) text, 0) else ([], 2)) is

pub returns-then-not-has_rule : goal.returns-then-not-has_rule
returns-then-not-has_rule g c = λ status.
    let p = c.args.population.now.content in
    let e = g.E.Explainer.explains c.args.explainer.now p in
    let named = ap e.has_rule (sym c.as_bytes.ensures.value) ∙ (sym (c.has_rule.ensures p) ∙ c.if-not-has_rule.true) in
    ending_as (sym (named_by e c.args.self.now.shown c.args.name.now c.args.text.now status false named)) (c.write_answer.ensures true)

pub returns : goal.returns
returns g c = λ status.
    let p = c.args.population.now.content in
    let e = g.E.Explainer.explains c.args.explainer.now p in
    let shown = c.args.self.now.shown in
    let named = ap e.has_rule (sym c.as_bytes.ensures.value) ∙ (sym (c.has_rule.ensures p) ∙ c.if-not-has_rule.false) in
    let same = ap (λ (n : List ℕ). (explained_report e shown (Some n) c.args.text.now, 0)) c.as_bytes-2.ensures.value in
    ending_as (same ∙ sym (named_by e shown c.args.name.now c.args.text.now status true named)) c.write_explained.ensures
