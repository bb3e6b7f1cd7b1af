use Rattle.std.proofs.Common.{◌≡◌, ◌∙◌, List, ℕ, sym, ap, take, arith}
use Rattle.std.proofs.lemmas.Grind.{common_steps}
use Rattle.std.proofs.lemmas.List.Folds.{flat_map-map}
use Rattle.std.specs.List.{flat_map}
use Rattle.report_forms.specs.Findings.{context_of}
use Rattle.report_forms.specs.Lines.{line_by}
use Rattle.report_forms.proofs.lines.lines_by.Goals as goal

pub returns : goal.returns
returns c =
    let xs = c.deref-line-items.result.now in
    let by : List ℕ → List ℕ = line_by c.args.part (context_of c.args.beside) in
    let whole : take c.loop-line.line-index xs ≡ xs = grind (arith, common_steps) in
    let same : xs ≡ c.in_ok-lines.lines.items = c.deref-line-items.ensures.value in
    c.loop-line.invariant ∙ (ap (flat_map (λ t. by t.now)) (whole ∙ same)
    ∙ (sym (flat_map-map by (λ t. t.now) c.in_ok-lines.lines.items) ∙ ap (flat_map by) c.in_ok-lines.ensures))
