use Rattle.std.proofs.Common.{rules, tests, ◌≡◌, ◌==◌, ℕ, List, Bool, true, false, Option, option_map, ap, sym, ◌∙◌, if◌then◌else◌}
use Rattle.ocl_check.proofs.ForAbove.{ending_as}
use Rattle.ocl_explain.specs.declared.weaving.Shown.{Shown}
use Rattle.ocl_explain.specs.ExplainedReport.{Explainer, reported, explained_answer}
use Rattle.ocl_explain.proofs.findings.ExplainedReport.write_answered.Goals as goal

-- the answer by whether `judge` refuses an input
answer_by : (e : Explainer) (shown : Shown) (rule : Option (List ℕ)) (text : List ℕ) (status : ℕ) (b : Bool) → (status == 2) ≡ b
    → explained_answer e shown rule (text, status) ≡ (if b then (text, status) else reported e shown rule (text, status))
answer_by e shown rule text status b is = ap (λ (x : Bool). if x then (text, status) else reported e shown rule (text, status)) is

pub returns-then-status-eq2 : goal.returns-then-status-eq2
returns-then-status-eq2 g c =
    let e = g.E.Explainer.explains c.args.explainer.now c.args.population.now.content in
    let self = c.args.self.now in
    ending_as (sym (answer_by e self.shown (option_map (λ r. r.now) self.rule) c.args.text.now c.args.status true (search (tests, rules)))) (c.write_answer.ensures true)

pub returns-in-Some : goal.returns-in-Some
returns-in-Some g c =
    let e = g.E.Explainer.explains c.args.explainer.now c.args.population.now.content in
    let self = c.args.self.now in
    let report = answer_by e self.shown (option_map (λ r. r.now) self.rule) c.args.text.now c.args.status false (search (tests, rules)) in
    ending_as (sym (report ∙ ap (λ (r : Option (List ℕ)). reported e self.shown r (c.args.text.now, c.args.status)) (ap (option_map (λ r. r.now)) c.in-Some.is))) (c.write_named.ensures c.args.status)

pub returns-in-None : goal.returns-in-None
returns-in-None g c =
    let e = g.E.Explainer.explains c.args.explainer.now c.args.population.now.content in
    let self = c.args.self.now in
    let report = answer_by e self.shown (option_map (λ r. r.now) self.rule) c.args.text.now c.args.status false (search (tests, rules)) in
    ending_as (sym (report ∙ ap (λ (r : Option (List ℕ)). reported e self.shown r (c.args.text.now, c.args.status)) (ap (option_map (λ r. r.now)) c.in-None.is))) c.write_explained.ensures
