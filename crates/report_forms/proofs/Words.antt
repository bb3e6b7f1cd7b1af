-- The words of a line that was put together of words, and the lines of a text that was put together of lines.
use Rattle.std.proofs.Common.{◌≡◌, ℕ, ◌<◌, eqb, true, false, List, [], ◌∷◌, ◌++◌, map, refl, ap, ◌∙◌, append_assoc, arith}
use Rattle.std.specs.List.{AllByRecursion, slice_split, join_with_byte}
use Rattle.std.proofs.lemmas.List.Splits.{slice_split-cons_yes, slice_split-cons_no}
use Rattle.report_forms.specs.ReportRows.{words_in, rows_in}

-- every byte is above this one
abbrev pub IsAbove : ℕ → List ℕ → Type 0
IsAbove c bytes = AllByRecursion (λ b. c < b) bytes

-- bytes above one, put together
pub above_append : (c : ℕ) (xs ys : List ℕ) → IsAbove c xs → IsAbove c ys → IsAbove c (xs ++ ys)
above_append c [] ys h k = k
above_append c (x ∷ xs) ys h k = (h.0, above_append c xs ys h.1 k)

-- cut at a byte below all of them
pub split_none : (c : ℕ) (w : List ℕ) → IsAbove c w → slice_split (λ b. eqb b c) w ≡ w ∷ []
split_none c [] h = refl
split_none c (b ∷ w) h =
    let no : eqb b c ≡ false = grind arith in
    rw (slice_split-cons_no (λ x. eqb x c) b w no, split_none c w h.1) refl

-- the first part ends before the first such byte
pub split_first : (c : ℕ) (w rest : List ℕ) → IsAbove c w → slice_split (λ b. eqb b c) (w ++ c ∷ rest) ≡ w ∷ slice_split (λ b. eqb b c) rest
split_first c [] rest h =
    let yes : eqb c c ≡ true = grind arith in
    rw (slice_split-cons_yes (λ x. eqb x c) c rest yes) refl
split_first c (b ∷ w) rest h =
    let no : eqb b c ≡ false = grind arith in
    rw (slice_split-cons_no (λ x. eqb x c) b (w ++ c ∷ rest) no, split_first c w rest h.1) refl

-- words with spaces between them
pub words_joined : (w : List ℕ) (ws : List (List ℕ)) → IsAbove 32 w → AllByRecursion (IsAbove 32) ws → slice_split (λ b. eqb b 32) (join_with_byte 32 (w ∷ ws)) ≡ w ∷ ws
words_joined w [] h k = split_none 32 w h
words_joined w (v ∷ vs) h k = split_first 32 w (join_with_byte 32 (v ∷ vs)) h ∙ ap (λ rest. w ∷ rest) (words_joined v vs k.0 k.1)

-- what is above a space is above a line feed
weaker : (w : List ℕ) → IsAbove 32 w → IsAbove 10 w
weaker [] h = tt
weaker (b ∷ w) h = (omega (arith, h.0), weaker w h.1)

-- a line of words has no line feed
joined_above : (w : List ℕ) (ws : List (List ℕ)) → IsAbove 32 w → AllByRecursion (IsAbove 32) ws → IsAbove 10 (join_with_byte 32 (w ∷ ws))
joined_above w [] h k = weaker w h
joined_above w (v ∷ vs) h k = above_append 10 w _ (weaker w h) (omega arith, joined_above v vs k.0 k.1)

-- a line of words, and what follows it
pub line_first : (w : List ℕ) (ws : List (List ℕ)) (rest : List ℕ) → IsAbove 32 w → AllByRecursion (IsAbove 32) ws
    → rows_in ((join_with_byte 32 (w ∷ ws) ++ 10 ∷ []) ++ rest) ≡ (w ∷ ws) ∷ rows_in rest
line_first w ws rest h k =
    let row = join_with_byte 32 (w ∷ ws) in
    rw (append_assoc row (10 ∷ []) rest)
    (ap (map words_in) (split_first 10 row rest (joined_above w ws h k))
    ∙ ap (λ x. x ∷ rows_in rest) (words_joined w ws h k))
