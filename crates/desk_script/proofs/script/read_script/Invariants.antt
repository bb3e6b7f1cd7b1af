use Rattle.std.proofs.Common.{length}
use Rattle.desk_script.specs.Script.{script_of}
use Rattle.desk_script.proofs.Turns.{ReadTo}
use Rattle.desk_script.proofs.script.read_script.Given as goal

abbrev pub invariant-lines : goal.invariant-lines
invariant-lines l = ReadTo l.calls.items l.rest (script_of l.text)

abbrev pub decreases-lines : goal.decreases-lines
decreases-lines l = length l.rest
