-- The lines of a report, or of a refusal, as rows of words.
use Rattle.std.specs.Prelude.{ℕ, List, [], ◌∷◌, ◌++◌, ◌==◌, map, slice_index_or}
use Rattle.std.specs.List.{slice_split}

-- the lines, and after the last line feed an empty one
abbrev pub lines_in : List ℕ → List (List ℕ)
lines_in text = slice_split (λ b. b == 10) text

-- the words of a line, between its spaces
abbrev pub words_in : List ℕ → List (List ℕ)
words_in line = slice_split (λ b. b == 32) line

abbrev pub word_at : List (List ℕ) → ℕ → List ℕ
word_at words i = slice_index_or words i []

-- the words of each line
abbrev pub rows_in : List ℕ → List (List (List ℕ))
rows_in text = map words_in (lines_in text)

-- a line with its end; what comes after the last line is none
abbrev pub ended_line : List ℕ → List ℕ
ended_line [] = []
ended_line (b ∷ bs) = (b ∷ bs) ++ 10 ∷ []
