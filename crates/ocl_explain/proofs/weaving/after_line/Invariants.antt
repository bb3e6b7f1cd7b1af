use Rattle.std.proofs.Common.{◌≡◌, drop}
use Rattle.ocl_explain.specs.ExplainedReport.{after_line}
use Rattle.ocl_explain.proofs.weaving.after_line.Given as goal

-- no line has ended yet
abbrev pub invariant-loop-index : goal.invariant-loop-index
invariant-loop-index l = after_line l.text ≡ after_line (drop l.index l.text)
