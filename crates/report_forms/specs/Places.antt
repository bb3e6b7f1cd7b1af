-- Where the entry of each object begins in a delivery. Its document is an object of JSON with a list, whose elements are the
-- entries: each begins with a brace that is inside two brackets and in no string. Of two lists the last one counts, as where
-- a member stands twice.
use Rattle.std.specs.Prelude.{ℕ, ◌+◌, ◌-◌, ◌==◌, ◌&&◌, ◌||◌, Bool, false, not, List, [], ◌∷◌, ◌++◌, if◌then◌else◌}
use Rattle.explain_notes.specs.Places.{begins_character}
use Rattle.report_forms.specs.declared.places.EntryPlace.{EntryPlace}
use Rattle.report_forms.specs.declared.places.Scan.{Scan}

-- before the first byte
abbrev pub scan_start : Scan
scan_start = record { place = record { offset = 0; line = 1; column = 1 }; depth = 0; is_in_string = false; is_escaped = false }

-- a line feed begins the next line; a character counts once, whatever its bytes
abbrev pub place_after : EntryPlace → ℕ → EntryPlace
place_after at b = record {
  offset = at.offset + 1;
  line = if b == 10 then at.line + 1 else at.line;
  column = if b == 10 then 1 else (if begins_character b then at.column + 1 else at.column);
}

abbrev pub opens_part : ℕ → Bool
opens_part b = b == 123 || b == 91

abbrev pub closes_part : ℕ → Bool
closes_part b = b == 125 || b == 93

abbrev pub depth_after : ℕ → ℕ → ℕ
depth_after depth b = if opens_part b then depth + 1 else (if closes_part b then depth - 1 else depth)

-- a backslash in a string escapes the next byte; a quote that isn't escaped begins or ends a string
abbrev pub scan_after : Scan → ℕ → Scan
scan_after s b = record {
  place = place_after s.place b;
  depth = if s.is_in_string then s.depth else depth_after s.depth b;
  is_in_string = if s.is_in_string then s.is_escaped || not (b == 34) else b == 34;
  is_escaped = s.is_in_string && (not s.is_escaped && b == 92);
}

abbrev pub begins_list : Scan → ℕ → Bool
begins_list s b = not s.is_in_string && (s.depth == 1 && b == 91)

abbrev pub begins_entry : Scan → ℕ → Bool
begins_entry s b = not s.is_in_string && (s.depth == 2 && b == 123)

-- the places that are known after one more byte
abbrev pub known_after : Scan → List EntryPlace → ℕ → List EntryPlace
known_after s known b = if begins_list s b then [] else (if begins_entry s b then known ++ s.place ∷ [] else known)

abbrev pub places_from : Scan → List EntryPlace → List ℕ → List EntryPlace
places_from s known [] = known
places_from s known (b ∷ bs) = places_from (scan_after s b) (known_after s known b) bs

-- in the order of the entries
abbrev pub entry_places : List ℕ → List EntryPlace
entry_places bytes = places_from scan_start [] bytes
