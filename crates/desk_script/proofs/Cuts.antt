-- Texts cut at the first byte of a value.
use Rattle.std.proofs.Common.{◌≡◌, ℕ, ◌+◌, ◌-◌, ◌<◌, Bool, true, false, cond, nat_lt, List, [], ◌∷◌, length, take, drop, Option, Some, None, refl, sym, ap, ◌∙◌, subst, arith, ◌==◌, is_some, Bor}
use Rattle.std.proofs.lemmas.List.{take_rest}
use Rattle.std.specs.List.{position, position_or_len}
use Rattle.std.specs.Option.{option_map_or}
use Rattle.std.proofs.lemmas.Bool.{ltb-true, ltb-false, ne_eqb, false≢true}
use Rattle.std.proofs.lemmas.List.Sums.{fails_before_first}
use Rattle.std.proofs.lemmas.List.Splits.{slice_split_none, slice_split_first, length-slice_split}
use Rattle.desk_script.specs.Script.{parts, call_by, written_call, lines_among, lines_of}

-- what a choice that gave an index says
there : (b : Bool) (n i : ℕ) → Some i ≡ cond b (Some n) None → (b ≡ true) × (n ≡ i)
there true n i e = (refl, cc)
there false n i e = absurd (let no : Some i ≡ None = e in cc)

-- what a choice that gave none says
nowhere : (b : Bool) (n : ℕ) → None ≡ cond b (Some n) None → b ≡ false
nowhere true n e = absurd (let no : None ≡ Some n = e in cc)
nowhere false n e = refl

-- the parts of a text in which the byte is first found at an index
pub parts_there : (mark : ℕ) (text : List ℕ) (i : ℕ) → Some i ≡ position (λ b. b == mark) text → parts mark text ≡ take i text ∷ parts mark (take (length text - (i + 1)) (drop (i + 1) text))
parts_there mark text i e =
    let at = there (nat_lt (position_or_len (λ b. b == mark) text) (length text)) (position_or_len (λ b. b == mark) text) i e in
    let cut = slice_split_first (λ b. b == mark) text 0 (ltb-true _ _ at.0) in
    rw take_rest (subst (λ (n : ℕ). parts mark text ≡ take n text ∷ parts mark (drop (n + 1) text)) at.1 cut)

-- a text without the byte is one part
pub parts_nowhere : (mark : ℕ) (text : List ℕ) → None ≡ position (λ b. b == mark) text → parts mark text ≡ text ∷ []
parts_nowhere mark text e =
    let past = ltb-false _ _ (nowhere (nat_lt (position_or_len (λ b. b == mark) text) (length text)) (position_or_len (λ b. b == mark) text) e) in
    slice_split_none (λ b. b == mark) text (λ k d lt. fails_before_first (λ b. b == mark) text k d (omega (arith, lt, past)))

-- a part before other parts is a line
more_lines : (line : List ℕ) (ps : List (List ℕ)) → 0 < length ps → lines_among (line ∷ ps) ≡ line ∷ lines_among ps
more_lines line [] some = absurd (omega (arith, some))
more_lines line (p ∷ ps) some = refl

-- the first line ends at a newline
pub line_and_more : (text line below : List ℕ) → parts 10 text ≡ line ∷ parts 10 below → lines_of text ≡ line ∷ lines_of below
line_and_more text line below e =
    ap lines_among e ∙ more_lines line (parts 10 below) (omega (arith, length-slice_split (λ b. b == 10) below))

-- the first line is all that there is
pub last_line : (text line : List ℕ) → 0 < length text → parts 10 text ≡ line ∷ [] → line ≡ text → lines_of text ≡ line ∷ lines_of []
last_line text line some e whole =
    ap lines_among e ∙ rw (ne_eqb (length line) 0 (λ none. absurd (omega (arith, none, ap length whole, some)))) refl

-- a call has at most three words
too_many : (word a b : List ℕ) (ps : List (List ℕ)) → 0 < length ps → None ≡ call_by (word ∷ a ∷ b ∷ ps)
too_many word a b [] some = absurd (omega (arith, some))
too_many word a b (p ∷ ps) some = refl

-- where something stands after a cut, there are parts of it
pub more_parts : (mark : ℕ) (rest : Option (Bor (List ℕ))) → is_some rest ≡ true → 0 < length (option_map_or (λ text. parts mark text.now) rest [])
more_parts mark None some = absurd (false≢true some)
more_parts mark (Some text) some = omega (arith, length-slice_split (λ b. b == mark) text.now)

-- a line of more than three words is no call
pub four_words : (line word a b first second : List ℕ) (more : List (List ℕ)) → parts 32 line ≡ word ∷ parts 32 first → parts 32 first ≡ a ∷ parts 32 second → parts 32 second ≡ b ∷ more → 0 < length more
    → None ≡ written_call line
four_words line word a b first second more e f g some =
    too_many word a b more some ∙ ap call_by (sym (e ∙ ap (λ (ps : List (List ℕ)). word ∷ ps) (f ∙ ap (λ (ps : List (List ℕ)). a ∷ ps) g)))
