-- Where what a text begins with ends.
use Rattle.std.proofs.Common.{◌≡◌, ℕ, zero, suc, ◌-◌, ◌<◌, Bool, true, false, List, [], ◌∷◌, length, drop, IsUtf8, Some, None, refl, sym, ap, ◌∙◌, subst, inl, inr, arith, add-one, lit<, Option}
use Rattle.std.proofs.lemmas.Bool.{cases_lt}
use Rattle.std.proofs.lemmas.Bool.Decides.{nat_tests}
use Rattle.std.proofs.lemmas.List.Sums.{prefix_len-le-length, prefix_len_passes, prefix_len_stops}
use Rattle.std.proofs.lemmas.Str.{IsCharBoundary-start, IsCharBoundary-end, IsCharBoundary-before_ascii, IsCharBoundary-after_ascii}
use Rattle.std.specs.List.{prefix_len}
use Rattle.std.specs.Str.{IsCharBoundary}
use Rattle.std.specs.Char.{is_ascii_digit}
use Rattle.ocl_tokens.specs.declared.lexeme.Lexeme.{Lexeme}
use Rattle.ocl_tokens.specs.declared.lexeme.Lexeme.TheVariants.{End, Blank, Token, Fault}
use Rattle.ocl_base.specs.Words.{is_letter, is_letter_or_digit}
use Rattle.ocl_tokens.specs.Lexical.{is_white, in_line, starts_with}
use Rattle.ocl_tokens.specs.FirstLexeme.{number_lexeme, number_by, number_value, a_word, LastIsAscii, EndsInAscii, EndsAtBoundary}

after_ascii_run : (p : ℕ → Bool) (bs : List ℕ) (n : ℕ) → prefix_len p bs ≡ n → IsUtf8 bs → ((c : ℕ) → p c ≡ true → c < 128) → IsCharBoundary bs n
after_ascii_run p bs zero e utf8 ascii = IsCharBoundary-start bs utf8
after_ascii_run p bs (suc k) e utf8 ascii =
    rw (← add-one) (IsCharBoundary-after_ascii bs k utf8 (omega (arith, prefix_len-le-length p bs)) (ascii _ (prefix_len_passes p bs k 0 (omega arith))))

-- a run of ASCII bytes ends where a character does
ascii_run : (p : ℕ → Bool) (bs : List ℕ) → IsUtf8 bs → ((c : ℕ) → p c ≡ true → c < 128) → IsCharBoundary bs (prefix_len p bs)
ascii_run p bs = after_ascii_run p bs _ refl

-- and so does a run that only an ASCII byte stops
wide_run : (p : ℕ → Bool) (bs : List ℕ) → ((c : ℕ) → p c ≡ false → c < 128) → IsCharBoundary bs (prefix_len p bs)
wide_run p bs ascii =
    elim (cases_lt (prefix_len p bs) (length bs)) [
      | inl within ↦ IsCharBoundary-before_ascii bs _ within (ascii _ (prefix_len_stops p bs 0 within))
      | inr past ↦ subst (IsCharBoundary bs) (omega (arith, prefix_len-le-length p bs)) (IsCharBoundary-end bs)
    ]

-- a run of letters and digits ends where a character does
pub word_end : (bs : List ℕ) → IsUtf8 bs → IsCharBoundary bs (prefix_len is_letter_or_digit bs)
word_end bs utf8 = ascii_run is_letter_or_digit bs utf8 (λ c e. grind (arith, nat_tests))

-- a run of digits ends where a character does
pub digit_end : (bs : List ℕ) → IsUtf8 bs → IsCharBoundary bs (prefix_len is_ascii_digit bs)
digit_end bs utf8 = ascii_run is_ascii_digit bs utf8 (λ c e. grind (arith, nat_tests))

-- a line ends where a character does
pub line_end : (bs : List ℕ) → IsCharBoundary bs (prefix_len in_line bs)
line_end bs = wide_run in_line bs (λ c e. grind (arith, nat_tests))

-- bytes whose last one is ASCII end where a character does
pub ascii_end : (bs : List ℕ) (n : ℕ) → IsUtf8 bs → LastIsAscii n bs → IsCharBoundary bs n
ascii_end bs zero utf8 h = IsCharBoundary-start bs utf8
ascii_end bs (suc n) utf8 h = let e : suc n - 1 ≡ n = omega arith in rw (← add-one) (IsCharBoundary-after_ascii bs n utf8 (omega arith) (rw e at h.2))

-- a run that takes the first byte is not empty
pub run_some : (p : ℕ → Bool) (b : ℕ) (bs : List ℕ) → p b ≡ true → 0 < prefix_len p (b ∷ bs)
run_some p b bs h = rw h (omega arith)

-- what ends in an ASCII byte ends where a character does
pub ends_well : (x : Lexeme) (bs : List ℕ) → IsUtf8 bs → EndsInAscii x bs → EndsAtBoundary x bs
ends_well End bs u h = tt
ends_well (Blank n) bs u h = (h.0, ascii_end bs n u h)
ends_well (Token kind n) bs u h = (h.0, ascii_end bs n u h)
ends_well (Fault flaw n) bs u h = h

module _ (bytes : List ℕ) (b : ℕ) (bs : List ℕ) (is : bytes ≡ b ∷ bs) (u : IsUtf8 bytes) where
  -- white space that a text begins with ends where a character does
  pub blank_ends : is_white b ≡ true → EndsAtBoundary (Blank 1) bytes
  blank_ends h = ends_well (Blank 1) bytes u (subst (LastIsAscii 1) (sym is) (lit< tt, omega arith, ascii))
    where
      ascii : b < 128
      ascii = grind (arith, nat_tests)

  -- so does a comment that goes up to the end of its line
  pub line_ends : (n : ℕ) → n ≡ prefix_len in_line bytes → b ≡ 45 → EndsAtBoundary (Blank n) bytes
  line_ends n e h = let l = line_end bytes in rw e (rw is (rw h (omega arith)), l)

  -- so does a word
  pub word_ends : (x : Lexeme) → x ≡ a_word bytes → is_letter b ≡ true → EndsAtBoundary x bytes
  word_ends x e h = rw e (rw is (run_some is_letter_or_digit b bs (rw h refl)), word_end bytes u)

  number_at : (o : Option ℕ) → is_ascii_digit b ≡ true → EndsAtBoundary (number_by o (prefix_len is_ascii_digit bytes)) bytes
  number_at None h = omega arith
  number_at (Some value) h = (rw is (run_some is_ascii_digit b bs h), digit_end bytes u)

  -- so does a number
  pub number_ends : (x : Lexeme) → x ≡ number_lexeme bytes → is_ascii_digit b ≡ true → EndsAtBoundary x bytes
  number_ends x e h = rw e (number_at (number_value bytes) h)

  -- so does a comment that begins with `/*`
  pub comment_ends : (x : Lexeme) → b ≡ 47 → starts_with bs 42 ≡ true → EndsInAscii x (47 ∷ 42 ∷ drop 1 bs) → EndsAtBoundary x bytes
  comment_ends x e s h = ends_well x bytes u (subst (EndsInAscii x) (sym (is ∙ rw e (ap (λ l. 47 ∷ l) (second bs s)))) h)
    where
      second : (l : List ℕ) → starts_with l 42 ≡ true → l ≡ 42 ∷ drop 1 l
      second [] t = absurd (cc)
      second (c ∷ l) t = let e : c ≡ 42 = grind (arith, nat_tests) in rw e refl

  -- so does a string
  pub string_ends : (x : Lexeme) → b ≡ 39 → EndsInAscii x (39 ∷ bs) → EndsAtBoundary x bytes
  string_ends x e h = ends_well x bytes u (subst (EndsInAscii x) (sym (is ∙ rw e refl)) h)

  -- so does a mark
  pub mark_ends : (x : Lexeme) → EndsInAscii x (b ∷ bs) → EndsAtBoundary x bytes
  mark_ends x h = ends_well x bytes u (subst (EndsInAscii x) (sym is) h)
