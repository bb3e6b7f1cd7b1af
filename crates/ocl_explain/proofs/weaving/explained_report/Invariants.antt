use Rattle.std.proofs.Common.{◌≡◌, ◌++◌, map, option_map, drop}
use Rattle.ocl_explain.specs.ExplainedReport.{explained_lines}
use Rattle.ocl_explain.proofs.weaving.explained_report.Given as goal

-- what was put, and what is due for the lines that are left
abbrev pub invariant-lines : goal.invariant-lines
invariant-lines g l =
    let e = g.E.Explainer.explains l.explainer l.population.content in
    l.out.items ++ explained_lines e l.wanted.shown (option_map (λ r. r.now) l.wanted.rule) l.progress.left (map (λ t. t.now) (drop l.line-index l.line-items))
    ≡ explained_lines e l.wanted.shown (option_map (λ r. r.now) l.wanted.rule) l.wanted.shown.findings (map (λ t. t.now) l.line-items)
