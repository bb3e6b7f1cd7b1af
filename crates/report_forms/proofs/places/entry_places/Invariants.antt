use Rattle.std.proofs.Common.{◌≡◌, ◌+◌, ◌≤◌, drop}
use Rattle.report_forms.specs.Places.{entry_places, places_from}
use Rattle.report_forms.proofs.places.entry_places.Given as goal

-- the places that are known, and those of the bytes that are left
abbrev pub invariant-bytes : goal.invariant-bytes
invariant-bytes l = record {
  offset_fits : l.scan.place.offset ≤ l.byte-index;
  line_fits : l.scan.place.line ≤ l.byte-index + 1;
  column_fits : l.scan.place.column ≤ l.byte-index + 1;
  depth_fits : l.scan.depth ≤ l.byte-index;
  places : entry_places l.bytes ≡ places_from l.scan l.places.items (drop l.byte-index l.bytes);
}
