-- Cells of a table that spreadsheets open: RFC 4180's quotes, and an apostrophe before what would be taken for a formula.
use Rattle.std.specs.Prelude.{ℕ, Bool, false, ◌==◌, ◌||◌, List, [], ◌∷◌, ◌++◌, codes, if◌then◌else◌}
use Rattle.std.specs.List.{list_any, flat_map}

-- `=`, `+`, `-`, `@`, a tab or a carriage return
abbrev pub begins_formula : List ℕ → Bool
begins_formula [] = false
begins_formula (b ∷ bs) = b == 61 || (b == 43 || (b == 45 || (b == 64 || (b == 9 || b == 13))))

abbrev pub guard : List ℕ → List ℕ
guard text = if begins_formula text then codes "'" else []

-- a comma, a quote, or an end of a line
abbrev pub wants_quotes : ℕ → Bool
wants_quotes b = b == 44 || (b == 34 || (b == 13 || b == 10))

abbrev pub needs_quotes : List ℕ → Bool
needs_quotes text = list_any wants_quotes text

-- a quote is written twice
abbrev pub quoted_byte : ℕ → List ℕ
quoted_byte b = if b == 34 then codes "\"\"" else b ∷ []

abbrev pub quoted : List ℕ → List ℕ
quoted text = codes "\"" ++ (guard text ++ (flat_map quoted_byte text ++ codes "\""))

abbrev pub table_cell : List ℕ → List ℕ
table_cell text = if needs_quotes text then quoted text else guard text ++ text
