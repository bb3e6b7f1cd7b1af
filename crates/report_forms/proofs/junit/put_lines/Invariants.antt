use Rattle.std.proofs.Common.{◌≡◌, ◌++◌, false, map, drop}
use Rattle.report_forms.specs.Findings.{context_of}
use Rattle.report_forms.specs.JunitForm.{junit_lines}
use Rattle.report_forms.proofs.junit.put_lines.Given as goal

-- what was put, and what is due for the lines that are left
abbrev pub invariant-lines : goal.invariant-lines
invariant-lines l =
    l.out.items ++ junit_lines (context_of l.beside) l.progress.is_open (map (λ t. t.now) (drop l.line-index l.lines))
    ≡ l.initial.out.items ++ junit_lines (context_of l.beside) false (map (λ t. t.now) l.lines)
