-- What a text begins with is what the cases of the text say.
use Rattle.std.proofs.Common.{◌≡◌, ℕ, suc, ◌+◌, ◌-◌, ◌*◌, ◌^◌, ◌<◌, ◌≤◌, Bool, true, false, ◌&&◌, ◌==◌, nat_lt, List, [], ◌∷◌, drop, ◌≢◌, lit<, add-zero, Option, Some, None, refl, sym, ap, ◌∙◌, subst, ◌⊎◌, inl, inr, arith}
use Rattle.std.specs.Prelude.{if◌then◌else◌, fold}
use Rattle.std.proofs.lemmas.Bool.Decides.{nat_tests}
use Rattle.std.proofs.lemmas.Bool.{cases_eq, cases_Bool, cases_lt, ne_eqb, eqb-true, eqb-false, lt-ltb, le-ltb}
use Rattle.std.proofs.lemmas.List.Sums.{take_while-cons}
use Rattle.std.specs.List.{prefix_len, take_while}
use Rattle.std.specs.Char.{is_ascii_digit}
use Rattle.ocl_tokens.specs.declared.token.TheConstants.{MAX_NUMBER}
use Rattle.ocl_tokens.specs.declared.token.TokenKind.{TokenKind}
use Rattle.ocl_tokens.specs.declared.fault.TextFlaw.{TextFlaw}
use Rattle.ocl_tokens.specs.declared.lexeme.Lexeme.{Lexeme}
use Rattle.ocl_tokens.specs.declared.lexeme.Lexeme.TheVariants.{End, Blank, Token, Fault}
use Rattle.ocl_tokens.specs.Lexical as l
use Rattle.ocl_base.specs.Words.{is_letter}
use Rattle.ocl_tokens.specs.Lexical.{is_white, in_line, is_escape, is_plain, starts_with, word_kind, mark_ahead, mark_of_one, ends_comment, opens_comment, begins_token, value_of, CommentEnds, CommentStaysOpen, StringCloses, StringStaysOpen, IsBlank, IsToken, IsFlaw}
use Rattle.ocl_tokens.specs.FirstLexeme as s
use Rattle.ocl_tokens.specs.FirstLexeme.{first_lexeme, comment_from, string_from, bad_after, digits_after}

-- ---- comments

comment_total : (text : List ℕ) → ((n : ℕ) × CommentEnds text n) ⊎ CommentStaysOpen text
comment_total [] = inr l.at_end
comment_total (b ∷ text) = by (ends_comment b text) (λ h. h) (λ h. h) (comment_total text)
  where
    by : (t : Bool) → (t ≡ true → ends_comment b text ≡ true) → (t ≡ false → ends_comment b text ≡ false) → ((n : ℕ) × CommentEnds text n) ⊎ CommentStaysOpen text → ((n : ℕ) × CommentEnds (b ∷ text) n) ⊎ CommentStaysOpen (b ∷ text)
    by true ends goes_on rest = inl (2, l.here (ends refl))
    by false ends goes_on (inl found) = inl (suc found.0, l.later (goes_on refl) found.1)
    by false ends goes_on (inr open_) = inr (l.later (goes_on refl) open_)

-- a comment that ends is read up to its end
pub comment_is : {n : ℕ} {text : List ℕ} → CommentEnds text n → (at len : ℕ) → len ≡ at + n → comment_from at text ≡ Some len
unfolding comment_from
comment_is (l.here h) at len e = rw (h, e) refl
comment_is (l.later h d) at len e = rw h (comment_is d (at + 1) len (omega arith))

-- a comment that stays open has no end
pub comment_open : {text : List ℕ} → CommentStaysOpen text → (at : ℕ) → comment_from at text ≡ None
unfolding comment_from
comment_open l.at_end at = refl
comment_open (l.later h d) at = rw h (comment_open d (at + 1))

-- ---- strings

abbrev pub earlier : Option ℕ → Option ℕ → Option ℕ
earlier (Some place) bad = Some place
earlier None bad = bad

earlier_none : (bad : Option ℕ) → earlier bad None ≡ bad
earlier_none None = refl
earlier_none (Some place) = refl

none_bad : (bad : Option ℕ) (at b : ℕ) → bad_after false bad at b ≡ bad
none_bad None at b = refl
none_bad (Some place) at b = refl

no_more_bad : (bad : Option ℕ) (at b : ℕ) → is_escape b ≡ true → bad_after true bad at b ≡ bad
no_more_bad None at b h = rw h refl
no_more_bad (Some place) at b h = refl

one_more_bad : (bad later : Option ℕ) (at b : ℕ) → is_escape b ≡ false → earlier (bad_after true bad at b) later ≡ earlier bad (Some at)
one_more_bad None later at b h = rw h refl
one_more_bad (Some place) later at b h = refl

not_quote : (b : ℕ) → is_plain b ≡ true → (b == 39) ≡ false
not_quote b h = grind (arith, nat_tests)

not_backslash : (b : ℕ) → is_plain b ≡ true → (b == 92) ≡ false
not_backslash b h = grind (arith, nat_tests)

-- a string that closes is read up to its closing quote, with its first bad escape
pub string_is : {from n : ℕ} {text : List ℕ} {bad : Option ℕ} → StringCloses from text n bad → (at len : ℕ) (found : Option ℕ) → from ≡ at + 1 → len ≡ from + n → string_from false found at text ≡ Some (len, earlier found bad)
unfolding string_from
string_is l.quote at len found e f = let m : at + 2 ≡ len = omega arith in rw (m, earlier_none found) refl
string_is (l.plain {b = b} h d) at len found e f = rw (not_quote b h, not_backslash b h, none_bad found at b) (string_is d (at + 1) len found (omega arith) (omega arith))
string_is (l.escape {b = b} h d) at len found e f = rw (none_bad found at 92, no_more_bad found (at + 1) b h) (string_is d (at + 1 + 1) len found (omega arith) (omega arith))
string_is {from} (l.bad_escape {b = b} {bad = bad} h d) at len found e f =
    rw (none_bad found at 92) (string_is d (at + 1 + 1) len (bad_after true found (at + 1) b) (omega arith) (omega arith) ∙ ap (λ x. Some (len, x)) (one_more_bad found bad (at + 1) b h ∙ ap (λ p. earlier found (Some p)) (sym e)))

-- a string that stays open has no end
pub string_open : {text : List ℕ} → StringStaysOpen text → (at : ℕ) (found : Option ℕ) → string_from false found at text ≡ None
unfolding string_from
string_open l.at_end at found = refl
string_open l.lone at found = refl
string_open (l.plain {b = b} h d) at found = rw (not_quote b h, not_backslash b h) (string_open d (at + 1) _)
string_open (l.escape {b = b} d) at found = string_open d (at + 1 + 1) _

-- what a byte of a string is
data StringByte (b : ℕ) : Type 0 where
  quote : b ≡ 39 → StringByte b
  backslash : b ≡ 92 → StringByte b
  itself : is_plain b ≡ true → StringByte b

string_byte : (b : ℕ) → StringByte b
string_byte b = elim (cases_eq b 39) [ inl e ↦ quote e | inr q ↦ elim (cases_eq b 92) [ inl e ↦ backslash e | inr r ↦ itself (rw (ne_eqb b 39 q, ne_eqb b 92 r) refl) ] ]

abbrev StringEnds : ℕ → List ℕ → Type 0
StringEnds from text = ((n : ℕ) × (bad : Option ℕ) × StringCloses from text n bad) ⊎ StringStaysOpen text

string_total : (from : ℕ) (text : List ℕ) → StringEnds from text
string_total from [] = inr l.at_end
string_total from (b ∷ []) = by (string_byte b)
  where
    by : StringByte b → StringEnds from (b ∷ [])
    by (quote e) = rw e (inl (1, None, l.quote))
    by (backslash e) = rw e (inr l.lone)
    by (itself h) = inr (l.plain h l.at_end)
string_total from (b ∷ c ∷ text) = by (string_byte b) (string_total (from + 1) (c ∷ text)) (string_total (from + 2) text) (cases_Bool (is_escape c))
  where
    by : StringByte b → StringEnds (from + 1) (c ∷ text) → StringEnds (from + 2) text → (is_escape c ≡ true) ⊎ (is_escape c ≡ false) → StringEnds from (b ∷ c ∷ text)
    by (quote e) one two t = rw e (inl (1, None, l.quote))
    by (itself h) (inl d) two t = inl (suc d.0, d.1, l.plain h d.2)
    by (itself h) (inr d) two t = inr (l.plain h d)
    by (backslash e) one (inl d) (inl t) = rw e (inl (suc (suc d.0), d.1, l.escape t d.2))
    by (backslash e) one (inl d) (inr t) = rw e (inl (suc (suc d.0), Some from, l.bad_escape t d.2))
    by (backslash e) one (inr d) t = rw e (inr (l.escape d))

-- ---- numbers

abbrev pub within_limit : ℕ → Option ℕ
within_limit value = if nat_lt value (2 ^ 63) then Some value else None

abbrev pub digit_step : ℕ → ℕ → ℕ
digit_step value digit = value * 10 + (digit - 48)

no_less : (value : ℕ) (digits : List ℕ) → value ≤ fold digit_step value digits
no_less value [] = omega arith
no_less value (d ∷ ds) = let h = no_less (value * 10 + (d - 48)) ds in omega (arith, h)

-- the value that is read of digits is theirs, if it is within the limit
pub digits_are : (value : ℕ) (text : List ℕ) → value < 2 ^ 63 → digits_after value text ≡ within_limit (fold digit_step value (take_while is_ascii_digit text))
unfolding digits_after
digits_are value [] h = let t : nat_lt value (2 ^ 63) ≡ true = lt-ltb value (2 ^ 63) h in rw t refl
digits_are value (b ∷ text) h = elim (cases_Bool (is_ascii_digit b)) [
  | inr t ↦ let u : nat_lt value (2 ^ 63) ≡ true = lt-ltb value (2 ^ 63) h in rw (t, u) refl
  | inl t ↦
      let next = value * 10 + (b - 48) in
      let e : b ∷ take_while is_ascii_digit text ≡ take_while is_ascii_digit (b ∷ text) = sym (take_while-cons is_ascii_digit b text ∙ rw t refl) in
      elim (cases_lt next (2 ^ 63)) [
        | inl below ↦
            let p : digits_after value (b ∷ text) ≡ digits_after next text = rw (t, lt-ltb next (2 ^ 63) below) refl in
            p ∙ digits_are next text below ∙ ap (λ ds. within_limit (fold digit_step value ds)) e
        | inr above ↦
            let p : digits_after value (b ∷ text) ≡ None = rw (t, le-ltb next (2 ^ 63) above) refl in
            let q : nat_lt (fold digit_step next (take_while is_ascii_digit text)) (2 ^ 63) ≡ false = le-ltb _ (2 ^ 63) (omega (arith, above, no_less next (take_while is_ascii_digit text))) in
            let r : within_limit (fold digit_step next (take_while is_ascii_digit text)) ≡ None = rw q refl in
            p ∙ sym r ∙ ap (λ ds. within_limit (fold digit_step value ds)) e
      ]
]

-- ---- what a text begins with

-- a lexeme is what the cases of the text say
abbrev pub Fits : List ℕ → Lexeme → Type 0
Fits text End = text ≡ []
Fits text (Blank n) = IsBlank text n
Fits text (Token kind n) = IsToken text kind n
Fits text (Fault flaw n) = (at : ℕ) → IsFlaw at text flaw (at + n)

if_fits : (text : List ℕ) (t : Bool) (x y : Lexeme) → (t ≡ true → Fits text x) → (t ≡ false → Fits text y) → Fits text (if t then x else y)
if_fits text true x y f g = f refl
if_fits text false x y f g = g refl

comment_fits : (text : List ℕ) → Fits (47 ∷ 42 ∷ text) (s.comment text)
comment_fits text = by (comment_total text)
  where
    by : ((n : ℕ) × CommentEnds text n) ⊎ CommentStaysOpen text → Fits (47 ∷ 42 ∷ text) (s.comment text)
    by (inl d) = rw (comment_is d.1 0 d.0 (omega arith)) (l.block_comment d.1)
    by (inr d) = rw (comment_open d 0) (λ at. rw add-zero (l.open_comment d))

string_fits : (text : List ℕ) → Fits (39 ∷ text) (s.string text)
string_fits text = by (string_total 1 text)
  where
    by : StringEnds 1 text → Fits (39 ∷ text) (s.string text)
    by (inl (n, None, d)) = rw (string_is d 0 (suc n) None refl (omega arith)) (l.a_string d)
    by (inl (n, Some bad, d)) = rw (string_is d 0 (suc n) None refl (omega arith)) (λ at. l.bad_escape d)
    by (inr d) = rw (string_open d 0 None) (λ at. rw add-zero (l.open_string d))

number_fits : (b : ℕ) (text : List ℕ) → is_ascii_digit b ≡ true → Fits (b ∷ text) (s.number_lexeme (b ∷ text))
number_fits b text h = rw (digits_are 0 (b ∷ text) (lit< tt)) (by _ refl)
  where
    by : (value : ℕ) → value_of (take_while is_ascii_digit (b ∷ text)) ≡ value → Fits (b ∷ text) (s.number_by (within_limit value) (prefix_len is_ascii_digit (b ∷ text)))
    by value e = elim (cases_lt value (2 ^ 63)) [
      | inl below ↦ rw (lt-ltb value (2 ^ 63) below) (l.a_number h e (omega arith))
      | inr above ↦ rw (le-ltb value (2 ^ 63) above) (λ at. rw add-zero (let over : MAX_NUMBER < value_of (take_while is_ascii_digit (b ∷ text)) = rw e (omega (arith, above)) in l.number_too_large h over))
    ]

mark_fits : (b : ℕ) (text : List ℕ) → is_white b ≡ false → is_letter b ≡ false → is_ascii_digit b ≡ false → b ≢ 39 → opens_comment b text ≡ false → Fits (b ∷ text) (s.mark b text)
mark_fits b text white letter digit no_quote comment = by (mark_ahead b text) (mark_of_one b) refl refl
  where
    by : (two one : Option TokenKind) → mark_ahead b text ≡ two → mark_of_one b ≡ one → Fits (b ∷ text) (s.mark_by two b)
    by (Some kind) one e f = l.a_long_mark comment e
    by None (Some kind) e f = rw f (l.a_mark comment e f)
    by None None e f = rw f (λ at. rw add-zero (let none : begins_token b ≡ false = rw (letter, digit, ne_eqb b 39 no_quote, f) refl in l.bad_character white none comment))

slash_star : (b : ℕ) (text : List ℕ) → (b == 47 && starts_with text 42) ≡ true → Fits (b ∷ text) (s.comment (drop 1 text))
slash_star b [] h = absurd (grind (arith, nat_tests))
slash_star b (c ∷ text) h =
    let e : b ≡ 47 = grind (arith, nat_tests) in
    let f : c ≡ 42 = grind (arith, nat_tests) in
    rw (e, f) (comment_fits text)

two_dashes : (b : ℕ) (text : List ℕ) → (b == 45 && starts_with text 45) ≡ true → IsBlank (b ∷ text) (prefix_len in_line (b ∷ text))
two_dashes b [] h = absurd (grind (arith, nat_tests))
two_dashes b (c ∷ text) h =
    let e : b ≡ 45 = grind (arith, nat_tests) in
    let f : c ≡ 45 = grind (arith, nat_tests) in
    rw (e, f) l.line_comment

-- what is read at the front of a text is what the cases of the text say
pub first_fits : (text : List ℕ) → Fits text (first_lexeme text)
unfolding first_lexeme
first_fits [] = refl
first_fits (b ∷ text) =
    if_fits (b ∷ text) (is_white b) _ _ (λ h. l.white_space h)
    (λ white. if_fits (b ∷ text) (b == 45 && starts_with text 45) _ _ (λ h. two_dashes b text h)
    (λ dashes. if_fits (b ∷ text) (b == 47 && starts_with text 42) _ _ (λ h. slash_star b text h)
    (λ slash. if_fits (b ∷ text) (b == 39) _ _ (λ h. let e : b ≡ 39 = eqb-true b 39 h in rw e (string_fits text))
    (λ no_quote. if_fits (b ∷ text) (is_ascii_digit b) _ _ (λ h. number_fits b text h)
    (λ digit. if_fits (b ∷ text) (is_letter b) _ _ (λ h. l.a_word h)
    (λ letter. mark_fits b text white letter digit (eqb-false b 39 no_quote) (rw (dashes, slash) refl)))))))

-- the end is read only where no text is left
pub first_end : (text : List ℕ) → first_lexeme text ≡ End → text ≡ []
first_end text h = subst (Fits text) h (first_fits text)

-- a blank that is read is white space or a comment
pub first_blank : (text : List ℕ) (n : ℕ) → first_lexeme text ≡ Blank n → IsBlank text n
first_blank text n h = subst (Fits text) h (first_fits text)

-- a token that is read is the one that the text begins with
pub first_token : (text : List ℕ) (kind : TokenKind) (n : ℕ) → first_lexeme text ≡ Token kind n → IsToken text kind n
first_token text kind n h = subst (Fits text) h (first_fits text)

-- a fault that is read is a flaw of the text
pub first_fault : (at : ℕ) (text : List ℕ) (flaw : TextFlaw) (n : ℕ) → first_lexeme text ≡ Fault flaw n → IsFlaw at text flaw (at + n)
first_fault at text flaw n h = subst (Fits text) h (first_fits text) at
