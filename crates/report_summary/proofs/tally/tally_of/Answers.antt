use Rattle.std.proofs.Common.{◌∙◌, ap, map, List, ℕ}
use Rattle.report_summary.specs.declared.kinds.LineKind.{LineKind}
use Rattle.report_summary.specs.Tallies.{line_kind, counts_of_kinds}
use Rattle.report_summary.proofs.Counts.{mapped_both}
use Rattle.report_summary.proofs.tally.tally_of.Goals as goal

pub returns-clause-lines : goal.returns-clause-lines
returns-clause-lines c =
    let by : List ℕ → LineKind = line_kind in
    let lines = c.in_ok-lines.lines.items in
    c.line_counts.ensures.counts
    ∙ ap counts_of_kinds (c.deref-4.ensures.value ∙ (c.in_ok-kinds.ensures
    ∙ (ap (map (λ t. by t.now)) c.deref.ensures.value
    ∙ (mapped_both by (λ t. t.now) lines ∙ ap (map by) c.in_ok-lines.ensures))))
