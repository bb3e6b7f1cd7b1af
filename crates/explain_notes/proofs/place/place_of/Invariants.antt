use Rattle.std.proofs.Common.{◌≡◌, ◌+◌, ◌≤◌, ◌==◌, take, count_by}
use Rattle.explain_notes.specs.Places.{begins_character, last_line}
use Rattle.explain_notes.proofs.place.place_of.Given as goal

abbrev pub invariant-bytes : goal.invariant-bytes
invariant-bytes l = record {
  line_fits : l.line ≤ l.byte-index + 1;
  column_fits : l.column ≤ l.byte-index + 1;
  line : l.line ≡ count_by (λ b. b == 10) (take l.byte-index l.before) + 1;
  column : l.column ≡ count_by begins_character (last_line (take l.byte-index l.before)) + 1;
}
