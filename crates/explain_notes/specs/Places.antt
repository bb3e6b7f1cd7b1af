-- Where a byte of a text stands.
use Rattle.std.specs.Prelude.{ℕ, ◌+◌, Bool, ◌||◌, ◌==◌, List, [], ◌∷◌, ◌++◌, take, count_by, fold, nat_lt, nat_le, if◌then◌else◌}

-- a character of UTF-8 begins with this byte; the others go on with one
abbrev pub begins_character : ℕ → Bool
begins_character b = nat_lt b 128 || nat_le 192 b

-- a line feed begins the next line, every other byte goes on with it
abbrev pub line_after : List ℕ → ℕ → List ℕ
line_after line b = if b == 10 then [] else line ++ b ∷ []

-- what a text has after its last line feed
abbrev pub last_line : List ℕ → List ℕ
last_line text = fold line_after [] text

-- the line of the byte at an offset, from 1
abbrev pub text_line : List ℕ → ℕ → ℕ
text_line text offset = count_by (λ b. b == 10) (take offset text) + 1

-- its column, in characters from 1
abbrev pub text_column : List ℕ → ℕ → ℕ
text_column text offset = count_by begins_character (last_line (take offset text)) + 1
