use Rattle.std.proofs.Common.{◌≡◌, take}
use Rattle.std.specs.List.{flat_map}
use Rattle.report_forms.specs.Findings.{context_of}
use Rattle.report_forms.specs.Lines.{line_by}
use Rattle.report_forms.proofs.lines.lines_by.Given as goal

abbrev pub invariant-loop-line : goal.invariant-loop-line
invariant-loop-line l = l.out.items ≡ flat_map (λ t. line_by l.part (context_of l.beside) t.now) (take l.line-index l.line-items)
