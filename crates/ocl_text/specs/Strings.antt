-- What the spelling of a string stands for.
use Rattle.std.specs.Prelude.{ℕ, Bool, true, false, ◌==◌, if◌then◌else◌, List, [], ◌∷◌}

-- what stands after a backslash: b t n f r name a control character, every other character itself
abbrev pub escape_value : ℕ → ℕ
escape_value b =
    if b == 98 then 8
    else (if b == 116 then 9
    else (if b == 110 then 10
    else (if b == 102 then 12
    else (if b == 114 then 13
    else b))))

-- The flag says whether a backslash stands before. A quote that is part of no escape encloses the string and falls away.
unfoldable pub value_from : Bool → List ℕ → List ℕ
value_from after_backslash [] = []
value_from true (b ∷ bs) = escape_value b ∷ value_from false bs
value_from false (b ∷ bs) = if b == 39 then value_from false bs else (if b == 92 then value_from true bs else b ∷ value_from false bs)

-- the characters of a string, from its spelling
abbrev pub string_value : List ℕ → List ℕ
string_value spelling = value_from false spelling
