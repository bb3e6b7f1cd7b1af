-- The first lines of a long text.
use Rattle.std.specs.Prelude.{ℕ, zero, suc, ◌-◌, ◌==◌, List, [], ◌∷◌, ◌++◌, codes, count_by, if◌then◌else◌}
use Rattle.std.specs.Fmt.{decimal}

-- how many lines a text has, each with the line feed that ends it
abbrev pub line_count : List ℕ → ℕ
line_count text = count_by (λ b. b == 10) text

-- so many lines of a text, from the first on
abbrev pub first_lines : ℕ → List ℕ → List ℕ
first_lines zero text = []
first_lines (suc n) [] = []
first_lines (suc n) (b ∷ bs) = b ∷ (if b == 10 then first_lines n bs else first_lines (suc n) bs)

abbrev pub lines_word : ℕ → List ℕ
lines_word n = if n == 1 then codes " more line\n" else codes " more lines\n"

-- how many more there are, if there are more
abbrev pub more_lines : ℕ → List ℕ
more_lines n = if n == 0 then [] else (codes "and " ++ (decimal n ++ lines_word n))

-- what is shown of a text of which at most so many lines are
abbrev pub cut_text : ℕ → List ℕ → List ℕ
cut_text n text = first_lines n text ++ more_lines (line_count text - n)
