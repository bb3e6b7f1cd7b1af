use Rattle.std.proofs.Common.{◌≡◌, ◌++◌, drop, take}
use Rattle.explain_notes.specs.Lines.{first_lines}
use Rattle.explain_notes.proofs.lines.end_of_lines.Given as goal

-- the bytes before the index, and what is left of the lines after it
abbrev pub invariant-loop-index : goal.invariant-loop-index
invariant-loop-index l =
    take l.index l.text ++ first_lines l.left (drop l.index l.text) ≡ first_lines l.lines l.text
