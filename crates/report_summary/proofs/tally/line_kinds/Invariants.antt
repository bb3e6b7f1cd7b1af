use Rattle.std.proofs.Common.{◌≡◌, map, take}
use Rattle.report_summary.specs.Tallies.{line_kind}
use Rattle.report_summary.proofs.tally.line_kinds.Given as goal

abbrev pub invariant-loop-line : goal.invariant-loop-line
invariant-loop-line l = l.kinds.items ≡ map (λ t. line_kind t.now) (take l.line-index l.lines)
